pub mod Coming
pub mod Ending
pub mod Examples
pub mod Hearing
pub mod Placing
pub mod Showing
pub mod Standing
