pub mod Spelled
pub mod Numbers
pub mod Formed
pub mod Combined
pub mod Checked
pub mod Heads
