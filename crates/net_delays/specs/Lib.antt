pub mod NetTimes
pub mod OneTimes
