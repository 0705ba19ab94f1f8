pub mod Phrases
pub mod Sentences
