pub mod Passing
pub mod Polling
pub mod Beginning
pub mod Requests
