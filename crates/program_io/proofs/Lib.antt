pub mod Reading
pub mod Threadable
pub mod TraceLines
pub mod Transfers
pub mod InputsRead
