pub mod Pitch
pub mod Rows
pub mod Exact
pub mod Building
