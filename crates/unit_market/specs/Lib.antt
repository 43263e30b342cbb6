pub mod Standing
pub mod Markets
pub mod Views
pub mod layers
