-- Laws that every crate above uses.
pub mod Puts
pub mod Reasons
pub mod Arms
pub mod Ways
pub mod Answers
pub mod AllWords
pub mod Numbers
pub mod Shortest
pub mod Forms
pub mod Vectors
