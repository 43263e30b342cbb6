pub mod Coming
pub mod Places
pub mod Units
pub mod layers
