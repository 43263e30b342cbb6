pub mod Steps
pub mod Scene
pub mod Due
pub mod Acting
pub mod Turns
pub mod Breaking
pub mod Demo
pub mod layers
