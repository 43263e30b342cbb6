pub mod Walking
pub mod Comparing
pub mod Cutting
pub mod Fronts
pub mod Judging
pub mod Reporting
pub mod Deciding
pub mod Logging
pub mod Verdicts
pub mod Inputs
pub mod Agreeing
mod Examples
