pub mod Grains
pub mod NeededKeys
pub mod Pairs
pub mod SizeDigits
pub mod WordPairs
