-- Laws that other crates' proofs cite.
pub mod Lowest
pub mod Given
pub mod Held
pub mod Pixels
pub mod Rectangles
