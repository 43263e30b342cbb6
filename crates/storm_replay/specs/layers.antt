-- What only the layers tell one another: no top call needs it.
pub mod Parts
pub mod Limits
pub mod Running
pub mod Units
