pub mod Logisim
pub mod InnerBreaks
