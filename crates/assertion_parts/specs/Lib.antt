pub mod Constants
pub mod Filling
pub mod Firsts
