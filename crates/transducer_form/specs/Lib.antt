pub mod Descriptions
pub mod Formed
pub mod LiteralWords
pub mod Written
