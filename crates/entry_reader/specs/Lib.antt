pub mod ReadGroups
