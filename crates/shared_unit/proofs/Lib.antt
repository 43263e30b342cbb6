pub mod Copying
pub mod Examples
pub mod Fronts
pub mod Growing
pub mod Looking
pub mod Rights
pub mod Steps
pub mod Writing
