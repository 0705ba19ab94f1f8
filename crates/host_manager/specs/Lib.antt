pub mod Host
pub mod Lives
pub mod Calls
pub mod Polls
pub mod Requests
pub mod Results
