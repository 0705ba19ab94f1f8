pub mod Epochs
pub mod Beginning
