pub mod Appended
pub mod Waited
