pub mod Links
pub mod Sessions
pub mod Came
pub mod Parts
pub mod Stands
pub mod layers
