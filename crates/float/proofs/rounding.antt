-- Lemmas of `float::rounding`: std's rounding is ours.
pub mod Rounded
