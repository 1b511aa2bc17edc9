mod Identified
mod Reading
mod Scoping
mod Shapes
pub mod Termwise
mod Walking
