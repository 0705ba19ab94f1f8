pub mod Filled
pub mod Fitting
pub mod GoodLines
pub mod Longer
pub mod OneReading
pub mod SameLines
pub mod SomeReading
pub mod Printing
