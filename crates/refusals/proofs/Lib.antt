pub mod OneChain
pub mod OneText
pub mod Places
