pub mod Finding
pub mod Whole
pub mod Steps
pub mod Stepwise
pub mod OneByOne
