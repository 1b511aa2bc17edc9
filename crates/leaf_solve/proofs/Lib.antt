pub mod RunLemmas
pub mod RegionLemmas
pub mod SystemLemmas
pub mod CountLemmas
pub mod AnswerLemmas
