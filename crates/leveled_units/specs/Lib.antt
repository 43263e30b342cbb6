pub mod BestFirst
pub mod Hearing
pub mod layers
