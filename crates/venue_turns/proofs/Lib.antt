pub mod Answering
pub mod Examples
pub mod Linking
pub mod Placing
pub mod Standing
