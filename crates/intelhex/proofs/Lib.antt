mod Lengths
mod High
mod Cover
pub mod Calls
pub mod Conforms
pub mod Rule
