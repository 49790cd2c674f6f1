mod Memory
mod Passes
