pub mod Tolls
pub mod Readings
pub mod Counts
pub mod CountedTolls
pub mod Walks
pub mod Next
pub mod Numbered
pub mod CountedLaws
