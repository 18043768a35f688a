pub mod Phases
pub mod FileReading
pub mod Lifting
