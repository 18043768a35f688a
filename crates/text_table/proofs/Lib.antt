pub mod Pushing
pub mod TextPieces
