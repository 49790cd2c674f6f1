mod Copying
mod Ordered
mod Dealing
mod Fitting
mod Meaning
mod Lining
