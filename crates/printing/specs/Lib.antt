-- The modules of the specification.
pub mod Text
pub mod Room
pub mod Cases
