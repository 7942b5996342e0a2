mod Bytes
mod Lengths
mod Range
