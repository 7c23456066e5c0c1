pub mod Groups
pub mod Places
pub mod Spellings
pub mod Worths
