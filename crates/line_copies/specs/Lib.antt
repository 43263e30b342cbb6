pub mod Sums
pub mod Copies
pub mod Standing
pub mod Laws
