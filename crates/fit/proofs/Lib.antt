-- Laws of the definitions.
pub mod Cases
mod CellNumber
pub mod First
pub mod Taps
mod Walks
