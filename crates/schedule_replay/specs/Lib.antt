pub mod Causes
pub mod Replay
pub mod Worlds
pub mod layers
