-- Laws that other crates' proofs cite.
pub mod Sizes
pub mod Marked
pub mod Given
pub mod Painted
