mod ExamplesReport
mod ExamplesSending
pub mod Adding
pub mod Bringing
pub mod Calls
pub mod Commanding
pub mod Ending
pub mod Examples
pub mod Extending
pub mod Feeds
pub mod Going
pub mod Parts
pub mod Outgoing
pub mod Passing
pub mod Reading
pub mod Reporting
pub mod Seeing
pub mod Starting
