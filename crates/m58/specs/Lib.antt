pub mod Calls
pub mod Cases
pub mod Laws
pub mod Sequence
