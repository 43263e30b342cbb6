pub mod Coming
pub mod Ended
pub mod LiveText
pub mod Places
pub mod Standing
pub mod Units
pub mod layers
