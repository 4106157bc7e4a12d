-- The modules of the specification: the definitions, and the laws over them.
pub mod Blocks
pub mod Laws
pub mod Bits
pub mod Table
pub mod Listed
pub mod TableCases
