pub mod Coming
pub mod Putting
pub mod Beside
pub mod Laws
