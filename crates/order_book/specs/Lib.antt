pub mod Naming
pub mod Standing
pub mod Symbols
pub mod Turns
pub mod layers
