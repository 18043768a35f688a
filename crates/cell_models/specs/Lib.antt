pub mod Cells
pub mod CornerCells
pub mod Joining
pub mod NamedSets
pub mod SameShapes
pub mod Shapes
