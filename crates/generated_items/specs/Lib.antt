pub mod Forms
pub mod Items
