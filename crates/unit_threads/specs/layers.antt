-- What only the layers tell one another: no top call needs it.
pub mod Listening
pub mod Publishing
pub mod Replying
pub mod Saying
pub mod Telling
