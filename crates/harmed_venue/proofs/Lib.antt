pub mod Calling
pub mod Each
mod Examples
pub mod Lawful
pub mod Losing
pub mod Sending
pub mod Stepping
pub mod Walks
