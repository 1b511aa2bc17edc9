pub mod TableLemmas
pub mod ChainLemmas
pub mod PatternLemmas
pub mod PartLemmas
pub mod PriceLemmas
pub mod SideLemmas
pub mod PairLemmas
pub mod KeptLemmas
