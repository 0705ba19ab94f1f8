pub mod SlotWrites
pub mod Heads
pub mod Blanks
pub mod SlotReads
pub mod Results
pub mod Fronts
