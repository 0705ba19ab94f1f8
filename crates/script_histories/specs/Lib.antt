pub mod LineCalls
pub mod LogQuiet
