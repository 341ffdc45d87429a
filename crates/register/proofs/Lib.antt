pub mod InMemory
pub mod Counting
pub mod Filling
