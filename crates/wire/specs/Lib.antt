pub mod Fields
pub mod Kinds
pub mod Layout
pub mod Messages
pub mod OneBits
pub mod Trips
