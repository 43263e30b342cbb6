mod Examples
pub mod Places
pub mod Tables
pub mod Feeding
pub mod Ends
pub mod Pieces
pub mod Shown
