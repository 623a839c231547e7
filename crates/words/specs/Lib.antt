pub mod Answer
pub mod Refusals
pub mod Buffer
pub mod Number
