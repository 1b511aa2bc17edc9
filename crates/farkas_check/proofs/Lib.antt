pub mod Children
pub mod Combining
pub mod Covering
pub mod Dense
pub mod LeafSums
pub mod Multiples
pub mod Soundness
pub mod Summing
