pub mod Raises
pub mod Bounds
