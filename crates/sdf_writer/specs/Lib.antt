pub mod SdfText
pub mod Escapes
pub mod Bounds
pub mod Names
pub mod WireEnds
pub mod WireRows
pub mod PathRows
