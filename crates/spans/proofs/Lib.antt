pub mod Few
pub mod Meaning
