pub mod Before
pub mod OnePage
