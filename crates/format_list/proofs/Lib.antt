mod Lengths
mod Ranges
mod Strings
