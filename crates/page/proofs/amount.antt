-- Lemmas of `page::amount`: a float's amount in parts of a whole number.
pub mod Digits
