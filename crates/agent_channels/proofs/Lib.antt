mod Opening
mod Backing
mod Joining
mod InOrder
mod Sparing
