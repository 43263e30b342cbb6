pub mod Texts
pub mod StatusText
pub mod BookText
pub mod Follow
pub mod Show
pub mod LineSize
pub mod UnitLine
pub mod layers
