-- What only the layers tell one another: no top call needs it.
pub mod Failures
pub mod Reading
pub mod Doing
pub mod Saying
