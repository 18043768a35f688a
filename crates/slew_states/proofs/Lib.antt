pub mod Corners
pub mod Graphs
pub mod Depths
pub mod Joins
pub mod NetPass
pub mod Edges
