pub mod Tags
pub mod News
