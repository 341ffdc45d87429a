pub mod Masks
pub mod Kinds
pub mod Rules
pub mod Refusals
pub mod Policies
pub mod Sizes
pub mod Tables
