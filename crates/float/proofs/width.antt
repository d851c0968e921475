-- Lemmas of `float::width`: the nearest whole number to a quotient, and the ranges of `narrow`.
pub mod Closest
pub mod Narrowing
pub mod Ranges
