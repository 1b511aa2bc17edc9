pub mod Regions
pub mod Bounding
