pub mod FormValues
pub mod Within
