pub mod Turning
pub mod WalkTurns
pub mod Named
pub mod Joining
pub mod Trails
pub mod Rows
pub mod Searching
pub mod Passing
pub mod Paths
pub mod Heights
pub mod Growing
pub mod Limiting
pub mod Meeting
pub mod OneUse
pub mod Numbered
mod OneFile
mod Numbers
mod Marking
