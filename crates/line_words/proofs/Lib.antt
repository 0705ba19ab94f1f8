pub mod Identifiers
pub mod NumberTexts
pub mod Values
pub mod Without
