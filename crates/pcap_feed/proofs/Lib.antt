pub mod Examples
pub mod Feeding
pub mod Files
pub mod Fronts
pub mod OneCutting
pub mod RecordCuts
pub mod Streams
