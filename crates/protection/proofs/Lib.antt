-- The modules that several answers of a proof share. A list alone: it proves nothing.
pub mod Scan
