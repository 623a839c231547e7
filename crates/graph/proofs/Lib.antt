-- The laws of the table that the proofs of the code and the crates above cite.
pub mod Rows
pub mod Ranges
pub mod Words
pub mod Passed
pub mod InOrder
pub mod Marking
pub mod Growing
pub mod Rounds
pub mod Sweeps
pub mod Reached
pub mod Unmarked
pub mod Sources
pub mod Refusals
pub mod Facts
pub mod Unreachable
pub mod Tails
