pub mod Sides
pub mod Tables
