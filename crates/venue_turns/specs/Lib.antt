pub mod Due
pub mod Standing
pub mod Turning
