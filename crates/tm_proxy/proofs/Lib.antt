mod Bits
mod Room
