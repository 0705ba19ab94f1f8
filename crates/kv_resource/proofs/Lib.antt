pub mod Tables
mod Rising
pub mod Finding
mod Under
mod Files
mod Loops
mod Again
mod Marked
mod Turning
mod Refusing
pub mod Giving
mod Noting
mod Held
