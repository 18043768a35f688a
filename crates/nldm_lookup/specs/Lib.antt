pub mod Axes
pub mod AxisEnds
pub mod BetweenOf
pub mod Betweens
pub mod Interpolant
pub mod Rows
pub mod Tables
