-- What only the layers tell one another: no top call needs it.
pub mod Ticking
pub mod Happening
pub mod Hearing
pub mod Showing
pub mod Laws
pub mod Hearings
pub mod Driving
