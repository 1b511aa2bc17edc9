pub mod Fillings
pub mod Firsts
pub mod Listed
pub mod Sorts
pub mod Terms
