pub mod Accounts
pub mod Given
pub mod Hearing
pub mod Serving
pub mod Statuses
pub mod Laws
