-- What only the layers tell one another: no top call needs it.
pub mod Books
pub mod Failures
pub mod Feeding
pub mod Suiting
pub mod Pieces
