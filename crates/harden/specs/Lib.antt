pub mod Blocks
pub mod Hardened
pub mod Edges
pub mod Passes
