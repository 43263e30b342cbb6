pub mod Bytes
pub mod Decimals
mod Examples
pub mod Keys
pub mod Lists
pub mod LittleEndian
pub mod Names
pub mod Placing
pub mod Truth
