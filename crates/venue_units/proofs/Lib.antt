mod Examples
pub mod Cutting
pub mod Doors
pub mod Making
pub mod Messages
pub mod Standing
pub mod Routing
