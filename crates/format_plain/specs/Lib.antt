pub mod Binary
pub mod Str
