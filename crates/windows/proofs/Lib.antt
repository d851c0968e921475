-- Laws that other crates' proofs cite.
pub mod Touching
pub mod Tallies
pub mod Nearest
pub mod Least
pub mod Windows
pub mod Numbers
pub mod Refusing
pub mod Meaning
