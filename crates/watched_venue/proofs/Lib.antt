mod Examples
pub mod Writing
