pub mod Bodies
pub mod Feeding
pub mod Refusals
pub mod Shapes
