-- The modules of the specification.
pub mod Records
pub mod Text
pub mod Cases
pub mod Sizes
pub mod Laws
pub mod Bytes
pub mod Recorded
pub mod Back
pub mod Chunks
