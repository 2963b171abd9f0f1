pub mod Below
pub mod Levels
pub mod Owed
pub mod Releases
pub mod Shared
pub mod Totals
