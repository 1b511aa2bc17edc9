pub mod Applied
pub mod Meanings
pub mod Asserted
pub mod Commanded
