mod Lanes
mod Ran
