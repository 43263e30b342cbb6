pub mod DrillText
pub mod layers
