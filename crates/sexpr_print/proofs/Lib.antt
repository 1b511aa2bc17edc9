pub mod Lexed
pub mod Nested
pub mod Opened
pub mod Whole
