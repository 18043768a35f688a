pub mod Grids
pub mod Places
pub mod SoleCorner
pub mod TripleCorners
