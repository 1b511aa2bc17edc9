pub mod Layers
pub mod Nodes
pub mod Outputs
pub mod Built
