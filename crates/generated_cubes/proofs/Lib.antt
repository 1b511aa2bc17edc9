pub mod Cubes
pub mod Steps
pub mod Numbers
pub mod Flats
pub mod Small
