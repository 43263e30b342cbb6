pub mod Waiting
pub mod Stands
