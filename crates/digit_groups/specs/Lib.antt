pub mod InnerGroups
