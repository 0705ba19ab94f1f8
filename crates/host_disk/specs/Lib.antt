pub mod Order
pub mod HostState
