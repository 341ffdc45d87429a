pub mod Holdings
pub mod Tables
