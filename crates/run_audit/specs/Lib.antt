pub mod Report
pub mod Log
pub mod Input
pub mod Causes
pub mod layers
