-- Laws of several functions' proofs, and the theorems of specs/Meaning.
pub mod Keys
pub mod Sorted
pub mod Merging
pub mod Books
pub mod Same
pub mod Joining
pub mod Walks
pub mod Plans
pub mod Filling
pub mod Refusing
pub mod Meaning
