pub mod Order
pub mod Exhaust
pub mod Writes
pub mod Parts
pub mod Pieces
pub mod Joined
pub mod Lists
pub mod Flat
