pub mod Ends
pub mod Inboxes
pub mod Runs
pub mod Showing
pub mod Through
pub mod Cuts
mod Examples
