-- The modules of the specification.
pub mod NumberCases
pub mod Numbers
