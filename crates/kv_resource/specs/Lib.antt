pub mod Bytes
pub mod Store
pub mod Table
pub mod Refusals
pub mod Notes
pub mod Images
pub mod Held
