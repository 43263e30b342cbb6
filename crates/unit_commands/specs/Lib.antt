pub mod UnitCommands
pub mod Pieces
pub mod layers
