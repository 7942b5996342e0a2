pub mod Plan
pub mod Text
pub mod Intel
pub mod InnerLent
