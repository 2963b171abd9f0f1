pub mod Cuts
pub mod Figures
pub mod Matches
pub mod Stamps
pub mod Trip
