pub mod CommandLine
pub mod Decimals
pub mod HelpText
pub mod Sizes
pub mod WordsEnds
