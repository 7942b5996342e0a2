pub mod Mif
