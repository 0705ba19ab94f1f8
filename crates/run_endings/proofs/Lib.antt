pub mod ByNumber
pub mod FalseOrders
pub mod Left
pub mod Settling
pub mod Untied
