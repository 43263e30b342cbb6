pub mod Harmed
pub mod Lines
pub mod Venues
pub mod layers
