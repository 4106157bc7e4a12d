-- The modules of the definitions and the laws. A list alone: it defines nothing.
pub mod Words
pub mod Digits
pub mod Laws
pub mod Cases
