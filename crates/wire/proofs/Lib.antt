pub mod Bits
pub mod BothWays
