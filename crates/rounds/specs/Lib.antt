pub mod Faults
pub mod Gates
pub mod Memory
pub mod Moves
pub mod Sides
pub mod Stages
