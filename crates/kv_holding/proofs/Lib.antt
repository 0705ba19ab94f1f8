mod Marks
mod Records
mod Working
mod Answering
pub mod Held
pub mod TwoStores
