pub mod Answering
pub mod Fronts
pub mod Misplaced
pub mod Sheets
pub mod Unchanged
pub mod Words
