mod Counted
mod Entered
mod Lists
mod Named
mod Ordered
