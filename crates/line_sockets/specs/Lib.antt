pub mod layers
