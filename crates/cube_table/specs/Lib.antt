pub mod Standing
pub mod Straightened
