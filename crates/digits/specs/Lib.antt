pub mod Bytes
pub mod Run
pub mod InnerRun
