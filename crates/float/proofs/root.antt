-- Lemmas of `float::root`: the digits of a root one by one, its pattern, and the cases of the argument.
pub mod Bound
pub mod Cases
pub mod Digits
pub mod Scaled
pub mod Squares
