-- Laws of the definitions.
pub mod Steps
pub mod Rows
pub mod Ends
pub mod Ring
pub mod Rationals
pub mod Transform
pub mod Image
pub mod Linear
pub mod Entries
pub mod Elimination
pub mod Homographies
