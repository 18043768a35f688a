pub mod Inputs
pub mod NetPins
pub mod NetSections
pub mod NetTrees
pub mod WorkCounts
pub mod TreeEnds
pub mod NetSteps
pub mod OneAnswer
