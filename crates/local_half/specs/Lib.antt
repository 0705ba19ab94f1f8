pub mod Told
pub mod Rights
pub use Rattle.half_parts.specs.Half
pub use Rattle.half_parts.specs.Waits
pub use Rattle.half_parts.specs.Linked
pub use Rattle.half_parts.specs.Taken
pub use Rattle.half_parts.specs.Branches
