pub mod Checking
pub mod WellFormed
