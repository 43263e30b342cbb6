pub mod Hearing
pub mod Results
