-- Laws of text written upward, and of digits.
pub mod Decimals
pub mod Writing
pub mod Lengths
