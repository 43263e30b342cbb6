pub mod Sounding
mod HeardBlocks
mod Booking
mod Marks
mod Acting
pub mod Sessions
mod Pumping
mod Examples
mod PrintedLines
