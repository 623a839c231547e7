pub mod Demand
pub mod Trials
pub mod Agreed
pub mod OneAnswer
