pub mod Bytes
pub mod Separator
pub mod CArray
pub mod InnerRadix
