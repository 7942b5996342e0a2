pub mod Dump
pub mod InnerTexts
