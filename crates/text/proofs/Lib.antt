pub mod Cutting
pub mod Writing
pub mod Spelling
pub mod Rooms
