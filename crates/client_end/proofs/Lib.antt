pub mod HeardItems
pub mod LinkItems
pub mod Told
pub mod Places
pub mod Seconds
pub mod Lines
mod Examples
pub mod Losing
