pub mod LayerOrder
pub mod Layers
pub mod Moving
pub mod Cuts
pub mod LayerLaws
pub mod PathLaws
