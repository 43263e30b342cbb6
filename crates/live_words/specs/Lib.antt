pub mod Options
pub mod Trials
pub mod Serving
pub mod Asked
pub mod layers
