-- Laws that other crates' proofs cite.
pub mod Refusing
pub mod Steps
pub mod Board
pub mod Most
