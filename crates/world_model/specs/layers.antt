-- What only the layers tell one another: no top call needs it.
pub mod Feeding
pub mod Hearing
pub mod Steps
