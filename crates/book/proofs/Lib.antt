-- Laws of several functions' proofs, and the theorems of specs/Meaning.
pub mod FitKept
pub mod Meaning
pub mod Order
pub mod ReadsBack
pub mod Refusing
pub mod Tested
pub mod WritesBack
pub mod Written
