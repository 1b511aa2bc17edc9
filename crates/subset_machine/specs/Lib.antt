pub mod Subsets
pub mod SubsetLaws
pub mod Legs
pub mod Groups
pub mod StateSets
