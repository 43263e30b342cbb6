-- What only the layers tell one another: no top call needs it.
pub mod Hearing
pub mod Ladders
pub mod Turning
