mod Declaring
mod Keeping
mod Layers
pub mod Placing
mod Sharing
mod Sorts
mod Sums
mod Tallying
mod Telling
