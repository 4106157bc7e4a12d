-- The theorems: their statements and proofs.
pub mod Places
pub mod Refused
pub mod Held
pub mod Theorem
