-- What only the layers tell one another: no top call needs it.
pub mod MemoryNets
pub mod Scripted
pub mod Steady
