-- What only the layers tell one another: no top call needs it.
pub mod Answers
pub mod OpenPeers
pub mod Seconds
pub mod Tokens
