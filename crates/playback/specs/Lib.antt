pub mod Playback
pub mod Tasks
pub mod Laws
pub mod Reads
pub mod Cases
pub mod ReadsCases
