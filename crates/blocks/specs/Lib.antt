pub mod Blocks
pub mod InnerStores
