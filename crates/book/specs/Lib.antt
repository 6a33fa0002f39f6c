pub mod Entries
pub mod Standing
pub mod Picks
pub mod Reads
pub mod Parts
