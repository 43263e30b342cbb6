pub mod HoldView
pub mod layers
