pub mod Pieces
pub mod Behind
pub mod Putting
pub mod Texts
mod Shown
mod Followed
pub mod Booking
