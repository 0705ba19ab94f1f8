mod Values
mod Filled
mod Called
