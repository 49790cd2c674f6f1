mod Shapes
mod Ending
mod Placing
mod Origins
mod Turns
mod Later
pub mod Leaving
mod Listening
