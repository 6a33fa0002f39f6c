pub mod Deeds
pub mod Ledgers
pub mod Promises
