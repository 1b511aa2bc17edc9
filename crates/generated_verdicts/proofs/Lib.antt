pub mod Owed
pub mod Tabled
