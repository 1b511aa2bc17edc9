pub mod Ranges
pub mod Entries
mod Declaring
pub mod Sames
pub mod Gathering
pub mod Placing
pub mod Strings
pub mod Fine
pub mod Quantities
pub mod Stated
pub mod Inserted
pub mod Comparisons
pub mod Proper
pub mod Scanned
pub mod Forms
