-- What only the layers tell one another: no top call needs it.
pub mod Ranges
pub mod Lent
pub mod Feeding
