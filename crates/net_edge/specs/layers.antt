-- What only the layers tell one another: no top call needs it.
pub mod Ends
pub mod Playing
pub mod Sending
pub mod Shared
