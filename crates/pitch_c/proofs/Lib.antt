pub mod Shapes
pub mod Sent
pub mod Telling
pub mod Answering
pub mod Filling
pub mod Examples
