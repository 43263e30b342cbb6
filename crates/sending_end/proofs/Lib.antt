pub mod Passing
pub mod Hearing
mod Examples
