-- Definitions that the contracts of this crate cite.
pub mod Grid
pub mod Fits
pub mod Numbers
pub mod Promises
pub mod First
pub mod Taps
