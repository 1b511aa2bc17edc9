pub mod Kinds
pub mod Gathered
pub mod Comparing
pub mod Strings
pub mod Numbers
