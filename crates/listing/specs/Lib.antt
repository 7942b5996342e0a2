pub mod Listing
pub mod InnerLine
