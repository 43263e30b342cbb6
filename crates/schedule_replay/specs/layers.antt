-- What only the layers tell one another: no top call needs it.
pub mod Apart
pub mod Merging
pub mod Runs
pub mod Stretches
pub mod Places
