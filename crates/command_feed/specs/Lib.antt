pub mod Causes
pub mod Feed
pub mod layers
