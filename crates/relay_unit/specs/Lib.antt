pub mod Hearing
pub mod Relayed
pub mod RelayText
pub mod Stands
pub mod Following
pub mod Sparing
pub mod Relays
pub mod layers
