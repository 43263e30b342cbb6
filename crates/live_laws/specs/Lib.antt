pub mod Sent
pub mod Carried
pub mod Text
pub mod Laws
