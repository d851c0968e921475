-- Definitions that the contracts of this crate cite, and what they mean.
pub mod Amounts
pub mod Text
pub mod Promises
pub mod Steps
pub mod Meaning
