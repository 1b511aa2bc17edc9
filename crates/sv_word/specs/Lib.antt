pub mod Cuts
pub mod Literals
pub mod Ranges
pub mod Utf8
pub mod Words
