pub mod RootLemmas
pub mod OneSlew
