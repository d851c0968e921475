-- Laws of several functions' proofs, and the theorems of specs/Meaning.
mod Amounts
pub mod Meaning
mod Printing
mod Refusing
pub mod Spelling
mod Texts
