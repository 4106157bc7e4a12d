-- The theorems: their statements and proofs.
pub mod Laws
pub mod Bytes
pub mod Recorded
pub mod Back
