pub mod Owned
pub mod Codes
pub mod Arrays
pub mod Answers
pub mod Clients
pub mod Reports
pub mod Lists
pub mod Ends
