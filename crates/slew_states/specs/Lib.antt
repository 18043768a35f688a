pub mod Arcs
pub mod InputEdges
pub mod PinState
pub mod Loops
pub mod Laws
pub mod Settled
pub mod Ends
pub mod NetEdges
