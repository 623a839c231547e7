-- Theorems on blocks, signatures and the hardened graph, and the laws that the functions' proofs use.
pub mod Count
pub mod Rows
pub mod Writes
pub mod Successors
pub mod Passes
pub mod Turns
pub mod Answers
pub mod Graded
pub mod Signatures
pub mod Edges
pub mod Leaders
pub mod Ranks
pub mod Crossings
pub mod Runnable
pub mod Listing
pub mod Tails
pub mod Words
