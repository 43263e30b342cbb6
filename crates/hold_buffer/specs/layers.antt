-- What only the layers tell one another: no top call needs it.
pub mod Holding
pub mod Offered
pub mod Places
