pub mod Input
pub mod Report
pub mod Running
pub mod Sending
pub mod Serving
pub mod Standing
pub mod layers
