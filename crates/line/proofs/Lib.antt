-- The lemmas of the proofs.
pub mod Parts
