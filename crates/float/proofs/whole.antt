-- Lemmas of `float::whole`: floor.
pub mod Floor
