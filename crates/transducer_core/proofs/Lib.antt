pub mod LayerLemmas
pub mod NodeLemmas
pub mod OutputLemmas
pub mod BuiltLemmas
