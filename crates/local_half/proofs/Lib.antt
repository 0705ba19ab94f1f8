pub mod News
pub mod Acting
