pub mod Summing
pub mod Keeping
pub mod Differing
pub mod Lasting
pub mod Places
pub mod Venues
mod Examples
