mod Asking
mod Assertions
mod Crossing
mod Folding
mod Going
mod Listed
pub mod Models
mod Rewritten
pub mod Rightness
mod Sharing
mod Sorts
mod Tallying
mod Weaker
