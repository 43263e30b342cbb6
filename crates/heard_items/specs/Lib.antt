pub mod HeardBlocks
pub mod Heard
pub mod Changes
pub mod Units
pub mod Datagrams
pub mod layers
