pub mod ByCell
pub mod Ended
pub mod Laying
pub mod Marked
pub mod Placing
pub mod Standing
pub mod Writing
pub mod AtContexts
