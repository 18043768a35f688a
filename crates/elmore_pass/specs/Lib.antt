pub mod Columns
pub mod Delays
