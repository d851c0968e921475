-- Laws that several proofs of this crate, or other crates' proofs, cite.
pub mod Whole
