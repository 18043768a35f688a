pub mod Tokens
pub mod DeadToken
pub mod Reading
pub mod Machine
pub mod Stopping
pub mod FrontLaw
pub mod ReadingLaw
pub mod Accepting
