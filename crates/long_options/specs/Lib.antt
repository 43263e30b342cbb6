pub mod Words
pub mod Plain
pub mod Apps
pub mod Found
pub mod layers
