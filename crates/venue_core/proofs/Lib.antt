pub mod Accepting
pub mod Answered
mod Examples
pub mod Judging
pub mod PlanAccepted
pub mod PlanBooks
pub mod PlanBytes
pub mod PlanEffects
pub mod PlanLeft
pub mod Sending
