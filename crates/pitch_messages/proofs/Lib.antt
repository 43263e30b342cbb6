mod Examples
pub mod Chains
pub mod LongestChain
pub mod Rows
pub mod Fields
pub mod Laying
pub mod RoundTrip
pub mod Rewriting
pub mod SessionTrip
pub mod Widths
