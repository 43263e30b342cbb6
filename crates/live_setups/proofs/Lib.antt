pub mod Keeping
pub mod Lines
pub mod Places
pub mod Units
pub mod Words
pub mod Examples
