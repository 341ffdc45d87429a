pub mod Bits
pub mod Passing
pub mod Policies
