mod Sums
pub mod Text
pub mod Plan
pub mod Decoded
