pub mod Reads
pub mod Obeys
pub mod Turns
pub mod Replays
pub mod Submits
pub mod Alike
