pub mod Means
pub mod Named
pub mod Participants
pub mod Quotes
pub mod Rosters
