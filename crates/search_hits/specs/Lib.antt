pub mod Hits
pub mod HitLaws
pub mod Regions
pub mod Boxes
pub mod UnknownLaws
