pub mod Arguments
pub mod Lines
pub mod Listing
pub mod Programs
pub mod Jobs
