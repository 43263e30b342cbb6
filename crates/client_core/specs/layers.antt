-- What only the layers tell one another: no top call needs it.
pub mod Blocks
pub mod Items
pub mod Hearing
pub mod Bookkeeping
