pub mod Ascii
pub mod Pieces
pub mod Lists
pub mod Writes
