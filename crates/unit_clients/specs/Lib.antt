pub mod Tables
pub mod Clients
pub mod Room
pub mod layers
