pub mod Names
pub mod Rows
pub mod ReadBack
pub mod WellSpelledNodes
