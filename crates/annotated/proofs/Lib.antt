mod Lengths
mod Sound
mod Fits
