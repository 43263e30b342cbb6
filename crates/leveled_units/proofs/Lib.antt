pub mod Answered
pub mod Laid
pub mod Rising
pub mod Spared
pub mod Starting
pub mod Examples
