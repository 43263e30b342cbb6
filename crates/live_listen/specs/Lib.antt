pub mod Counting
pub mod Due
pub mod Heard
pub mod Listening
pub mod Standing
pub mod layers
