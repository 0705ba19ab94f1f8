pub mod Connections
pub mod Enlisted
pub mod Standing
pub mod Recovery
