pub mod Flow
pub mod Links
pub mod Pieces
pub mod Pictures
pub mod Sending
pub mod Serves
pub mod Whole
pub mod Moves
pub mod Carries
pub mod Pumps
mod Examples
