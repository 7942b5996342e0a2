mod Lengths
mod Whole
