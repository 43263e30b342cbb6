pub mod Publishing
pub mod Saying
pub mod Serving
pub mod Telling
pub mod Texts
