pub mod Faults
pub mod Groups
pub mod Numbers
pub mod Writing
