-- The lemmas.
pub mod Laws
pub mod Fits
pub mod Reborrow
