pub mod Chains
pub mod Waiting
pub mod Orders
pub mod Trails
