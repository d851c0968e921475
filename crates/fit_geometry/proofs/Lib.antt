-- Laws and theorems of this crate.
pub mod PastTests
pub mod Determined
