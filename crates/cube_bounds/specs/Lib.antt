pub mod Bounds
pub mod Growth
pub mod Sides
pub mod Measuring
pub mod NumberLaws
