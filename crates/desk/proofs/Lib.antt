-- Laws of the arguments, of the texts and of what they are made of.
mod Rows
mod Cells
pub mod Printing
pub mod Cuts
pub mod Fits
pub mod Filed
mod Loaded
mod Sized
mod Answers
mod Shows
