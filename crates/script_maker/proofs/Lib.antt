pub mod Texts
pub mod Lengths
pub mod Names
pub mod Stages
pub mod Works
pub mod Made
pub mod Pushes
