pub mod OnThreads
pub mod SingleCommit
