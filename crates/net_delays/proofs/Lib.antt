pub mod OneTimes
pub mod Starts
