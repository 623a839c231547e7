pub mod Decimals
pub mod Places
