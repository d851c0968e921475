-- Laws of the definitions.
pub mod Steps
pub mod Marked
