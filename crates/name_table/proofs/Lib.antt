pub mod Cutting
pub mod FromBehind
pub mod KeyTests
pub mod Keys
pub mod Reading
pub mod Spelling
pub mod Staying
pub mod Writing
