pub mod LineCalls
pub mod LiveCalls
