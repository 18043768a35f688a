pub mod Orders
pub mod Fans
pub mod Ends
pub mod Progress
pub mod Trails
