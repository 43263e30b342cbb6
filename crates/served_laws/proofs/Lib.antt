mod Examples
pub mod Hearing
pub mod Staying
pub mod Growing
pub mod Sessions
pub mod Putting
pub mod Beside
