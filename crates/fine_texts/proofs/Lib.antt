pub mod Filling
pub mod Mapping
pub mod Looking
pub mod Outcomes
pub mod Wiring
pub mod FineTexts
pub mod Fronts
pub mod ReadTexts
