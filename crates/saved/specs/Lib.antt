pub mod Saved
pub mod Laws
pub mod Ranges
