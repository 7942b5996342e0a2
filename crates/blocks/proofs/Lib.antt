pub mod Running
mod Closing
pub mod Finding
