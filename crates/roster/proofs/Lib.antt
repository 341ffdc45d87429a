pub mod Masks
pub mod Tables
mod Rows
