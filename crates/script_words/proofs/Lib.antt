pub mod Meanings
pub mod Numbers
pub mod Patterns
pub mod Places
pub mod Splits
