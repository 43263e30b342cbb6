pub mod Storm
pub mod StormText
pub mod Summary
pub mod Ended
pub mod layers
