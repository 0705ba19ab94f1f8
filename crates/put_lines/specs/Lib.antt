pub mod Input
pub mod FrontLine
pub mod Names
pub mod Keys
pub mod Refusals
pub mod Rows
