-- The modules of the specification.
pub mod Records
pub mod Texts
