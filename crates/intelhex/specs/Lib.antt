pub mod Hex
pub mod TwoImages
pub mod InnerLent
