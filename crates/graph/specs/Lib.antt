pub mod Limits
pub mod Kinds
pub mod Nodes
pub mod Successors
pub mod Paths
pub mod Accepted
pub mod Checks
pub mod Marks
