pub mod Counting
pub mod Disagreeing
pub mod Recovering
pub mod Running
pub mod Standing
pub mod layers
