pub mod Due
pub mod Retry
pub mod Turning
