pub mod Asking
pub mod Rows
pub mod Naming
pub mod Sharing
pub mod Examples
pub mod Building
