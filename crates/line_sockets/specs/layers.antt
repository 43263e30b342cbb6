-- What only the layers tell one another: no top call needs it.
pub mod Opening
pub mod Waits
