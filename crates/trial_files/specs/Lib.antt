pub mod HeldFiles
pub mod Numbers
pub mod TrialLibrary
pub mod SpefHead
pub mod ChainNetlist
pub mod ChainSpef
pub mod BlockNetlist
pub mod BlockSpef
