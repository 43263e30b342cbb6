pub mod Ends
pub mod State
pub mod Verbs
pub mod Printed
pub mod Sound
pub mod Stands
pub mod layers
