-- What only the layers tell one another: no top call needs it.
pub mod Answered
pub mod Limits
pub mod Ending
pub mod Following
pub mod Played
pub mod Told
pub mod Turns
pub mod Words
