-- What only the layers tell one another: no top call needs it.
pub mod Answers
pub mod Coding
pub mod Histories
pub mod Moments
pub mod Rules
pub mod Stored
