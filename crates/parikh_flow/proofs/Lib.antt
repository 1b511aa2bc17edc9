pub mod CountLemmas
pub mod TourLemmas
pub mod RunLemmas
pub mod FlowLemmas
pub mod ValueLemmas
pub mod WeightLemmas
pub mod SolutionLemmas
pub mod MarkLemmas
pub mod WholeLemmas
pub mod HitLemmas
pub mod PointLemmas
pub mod PickLemmas
pub mod CountingLemmas
pub mod ReadyLemmas
mod EulerLemmas
pub mod FormLemmas
pub mod BalanceLemmas
mod RowLemmas
mod WithinLemmas
mod EdgeCountLemmas
pub mod ReachLemmas
