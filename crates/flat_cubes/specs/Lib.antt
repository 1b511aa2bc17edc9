pub mod Members
pub mod Using
pub mod Said
pub mod Met
pub mod Satisfying
pub mod Straight
pub mod Flattening
pub mod Drafted
