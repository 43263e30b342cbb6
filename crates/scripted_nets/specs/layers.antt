-- What only the layers tell one another: no top call needs it.
pub mod Failing
pub mod Lines
pub mod Logs
pub mod Scripts
