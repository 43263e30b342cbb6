pub mod Having
pub mod Showing
