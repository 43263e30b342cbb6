pub mod Fields
pub mod Kinds
pub mod Reading
pub mod Options
pub mod Text
pub mod Items
pub mod Causes
pub mod layers
