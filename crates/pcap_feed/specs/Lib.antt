pub mod Stream
pub mod Capture
pub mod Causes
pub mod Feeding
pub mod Payload
pub mod Datagrams
pub mod layers
