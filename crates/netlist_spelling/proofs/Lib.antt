pub mod NumberDigits
pub mod SpelledParts
pub mod NamedModules
pub mod SpelledPaths
pub mod SpelledPins
