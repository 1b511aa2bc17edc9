pub mod AscendingLemmas
pub mod PlaceLemmas
pub mod LeavingLemmas
pub mod SearchLemmas
pub mod HitLemmas
pub mod MarkLemmas
pub mod GroupLemmas
pub mod SubsetRuns
