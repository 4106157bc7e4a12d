-- The modules of the specification.
pub mod Script
pub mod Laws
pub mod Lent
pub mod Cases
