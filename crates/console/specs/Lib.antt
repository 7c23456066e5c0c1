pub mod Hex
pub mod Lanes
pub mod Placements
