pub mod Sums
pub mod Members
pub mod Sheets
pub mod Positions
pub mod Moves
