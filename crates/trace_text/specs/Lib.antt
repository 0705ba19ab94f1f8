pub mod ReadTrace
pub use Rattle.trace_lines.specs.Forms
pub use Rattle.trace_lines.specs.Headings
pub use Rattle.trace_lines.specs.OneTrace
pub use Rattle.trace_lines.specs.Printed
pub use Rattle.trace_lines.specs.Summary
pub use Rattle.entry_reader.specs.ReadGroups
