pub mod Builds
pub mod Joins
pub mod Overlaps
pub mod Products
pub mod ProductLaws
pub mod Splits
