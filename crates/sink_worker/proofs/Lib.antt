mod Rounding
mod Going
