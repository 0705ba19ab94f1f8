pub mod Heard
pub mod Whose
pub mod Puts
pub mod Tables
