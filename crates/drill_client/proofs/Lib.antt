pub mod Answered
pub mod Answering
pub mod Closing
pub mod Ends
pub mod Examples
pub mod Going
pub mod Played
pub mod Playing
