-- Lemmas of `float::sign`: std's words are ours.
pub mod Signs
