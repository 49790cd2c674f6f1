mod Growing
mod Filling
