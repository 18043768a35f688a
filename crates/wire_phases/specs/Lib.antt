pub mod AnnotationRows
pub mod NetPins
pub mod NetRows
pub mod SpefPhases
pub mod SpefWork
pub mod WireNets
pub mod WireRows
