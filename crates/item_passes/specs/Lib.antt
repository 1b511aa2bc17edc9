pub mod Binders
pub mod Passes
