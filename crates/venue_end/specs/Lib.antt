pub mod Sessions
pub mod Servers
pub mod Came
pub mod Stands
pub mod Feeding
pub mod layers
