pub mod Base
pub mod Run
pub mod Bytes
pub mod Behind
