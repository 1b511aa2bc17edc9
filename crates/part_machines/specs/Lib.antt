pub mod Tables
pub mod Chains
pub mod Patterns
pub mod Parts
pub mod Kept
pub mod Sides
pub mod Pairs
