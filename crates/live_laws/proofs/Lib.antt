mod Examples
pub mod Bringing
pub mod Sending
pub mod Putting
pub mod Serving
pub mod Reading
pub mod Hearing
pub mod Commanding
pub mod Asking
pub mod Carrying
