-- What only the layers tell one another: no top call needs it.
pub mod Lines
pub mod Walking
pub mod Following
pub mod Finding
pub mod Logging
pub mod Backward
pub mod Laws
