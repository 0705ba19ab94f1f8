mod Pasts
mod Entries
