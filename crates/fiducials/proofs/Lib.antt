-- Laws that the proofs of this crate, and of those above it, cite.
pub mod Picks
pub mod OneMore
pub mod Furthest
pub mod Keys
pub mod Unique
pub mod Named
pub mod Outer
pub mod Numbers
pub mod Answering
pub mod Detects
pub mod Determined
