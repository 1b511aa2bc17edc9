pub mod Cores
pub mod Searches
