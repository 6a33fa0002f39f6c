pub mod Standing
pub mod Rows
pub mod Places
pub mod Loops
