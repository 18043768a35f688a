pub mod Columns
pub mod States
pub mod CornerTurns
