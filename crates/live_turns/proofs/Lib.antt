pub mod Answering
pub mod Examples
pub mod Placing
pub mod Retrying
pub mod Standing
