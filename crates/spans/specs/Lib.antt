pub mod InnerCopies
pub mod Spans
