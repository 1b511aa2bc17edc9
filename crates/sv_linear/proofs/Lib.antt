pub mod Ascending
pub mod Bounds
pub mod Contents
pub mod Homogeneous
pub mod Merging
pub mod Refusals
