pub mod CornerLemmas
pub mod OneFault
pub mod ShapeLemmas
