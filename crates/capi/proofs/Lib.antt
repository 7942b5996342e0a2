mod Returns
pub mod TwoCalls
