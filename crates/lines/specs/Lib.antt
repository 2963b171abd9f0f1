pub mod Entries
pub mod Fills
pub mod Lines
pub mod Striking
