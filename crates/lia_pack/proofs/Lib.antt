mod Joining
mod Layers
pub mod Bytes
pub mod Reading
pub mod Unpacking
pub mod Written
