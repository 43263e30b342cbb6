-- What only the layers tell one another: no top call needs it.
pub mod Inputs
pub mod Places
pub mod Tokens
