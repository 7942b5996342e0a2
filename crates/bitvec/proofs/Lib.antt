pub mod Bits
pub mod Size
pub mod Words
