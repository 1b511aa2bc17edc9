pub mod Counts
pub mod Histories
pub mod Memory
pub mod Names
pub mod Stages
