pub mod Forms
pub mod Headings
pub mod OneTrace
pub mod Printed
pub mod Summary
