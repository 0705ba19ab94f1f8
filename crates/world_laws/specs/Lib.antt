pub mod Carried
pub mod Course
pub mod Left
