pub mod List
pub mod InnerGroups
