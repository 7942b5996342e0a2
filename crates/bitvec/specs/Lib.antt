pub mod Bits
pub mod Size
