pub mod Found
pub mod PoolNote
