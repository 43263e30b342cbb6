-- What only the layers tell one another: no top call needs it.
pub mod Feeding
pub mod ShelfCode
pub mod Looking
pub mod ShelfViews
