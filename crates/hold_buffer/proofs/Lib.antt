pub mod Finite
pub mod Viewed
pub mod Holds
pub mod Rings
pub mod Kept
pub mod Placed
