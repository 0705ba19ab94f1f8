pub mod CutLemmas
pub mod SameBytes
