pub mod Points
pub mod RowTerms
