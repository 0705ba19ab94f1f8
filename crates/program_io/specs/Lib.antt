pub mod FormText
pub mod InputRead
pub mod Judged
pub mod Listed
pub mod Refusal
pub mod TraceRead
pub mod Transfer
pub mod Verdict
