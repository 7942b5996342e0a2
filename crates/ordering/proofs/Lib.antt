pub mod Ordered
pub mod Keys
mod Sorted
mod Straight
pub mod Numbered
