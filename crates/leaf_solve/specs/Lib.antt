pub mod Questions
pub mod Longs
pub mod Answers
pub mod Steps
