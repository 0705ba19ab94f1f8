pub mod Counting
pub mod FalseLogs
pub mod Filling
pub mod Placing
pub mod Records
pub mod Room
pub mod Settling
pub mod Turned
