mod Builds
pub mod Calling
mod Drafting
mod Shapes
mod Words
