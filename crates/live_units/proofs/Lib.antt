mod Examples
pub mod Booking
pub mod Books
pub mod Ending
pub mod Ends
pub mod Following
pub mod Growing
pub mod Hearing
pub mod Listening
pub mod Losing
pub mod Moving
pub mod Passing
pub mod Quiet
pub mod Routing
pub mod Taking
pub mod Waits
