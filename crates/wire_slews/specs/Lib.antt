pub mod Roots
pub mod WireSlews
