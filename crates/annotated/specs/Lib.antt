pub mod Annotated
pub mod InnerListed
