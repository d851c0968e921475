-- Laws of the definitions.
pub mod Entries
pub mod Terms
mod OneMore
pub mod Kept
pub mod Counts
mod Cases
pub mod Turning
