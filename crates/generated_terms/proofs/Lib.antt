pub mod Folds
pub mod Told
pub mod Words
pub mod Answered
