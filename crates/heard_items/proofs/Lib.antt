pub mod Honesty
pub mod Hearing
pub mod Units
pub mod Datagrams
pub mod Examples
pub mod Answered
pub mod Room
