-- Demand 3, step by step, then in terms of what the functions promise, and what follows from it for the score.
pub mod Xor
pub mod Rows
pub mod Rounds
pub mod Roles
pub mod Stepping
pub mod Departing
pub mod Following
pub mod Standing
pub mod Inverting
pub mod Budgets
pub mod Answering
pub mod Scores
pub mod Promised
pub mod Unique
