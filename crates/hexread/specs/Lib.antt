-- The modules of the specification.
pub mod Ends
pub mod Bytes
pub mod Refusals
pub mod Put
pub mod Judging
pub mod Storing
pub mod Filling
pub mod Reading
