mod Turning
mod Committing
