-- What only the layers tell one another: no top call needs it.
pub mod Changing
pub mod Sending
pub mod Outlets
pub mod Calls
pub mod AnyRelays
pub mod Places
