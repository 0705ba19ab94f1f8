pub mod Traffic
pub mod Carries
pub mod Crossing
pub mod Queues
pub mod Calls
pub mod Alike
