-- The modules of the specification.
pub mod Array
pub mod Progress
