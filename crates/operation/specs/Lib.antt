-- The modules of the specification.
pub mod Rest
