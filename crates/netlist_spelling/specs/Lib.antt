pub mod SpelledNetlists
