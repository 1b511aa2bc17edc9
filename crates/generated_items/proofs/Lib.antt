pub mod Decimals
pub mod Raws
pub mod Formed
pub mod Texts
pub mod Scripts
