pub mod Print
pub mod Reading
pub use Rattle.line_reader.specs.Reader
