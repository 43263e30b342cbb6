pub mod Recovery
pub mod Spending
pub mod Rounds
