pub mod FlatTexts
