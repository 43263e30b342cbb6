mod Examples
pub mod Bringing
pub mod Counting
pub mod Disagreeing
pub mod Ending
pub mod Going
pub mod Named
pub mod Seeing
pub mod Showing
pub mod Starting
pub mod Still
