pub mod Connecting
pub mod Examples
