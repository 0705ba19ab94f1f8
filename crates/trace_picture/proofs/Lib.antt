pub mod Places
pub mod Others
pub mod OwnSent
pub mod OwnRows
pub mod OwnArrow
