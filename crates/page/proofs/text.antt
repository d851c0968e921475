-- Lemmas of `page::text`: what parts that came back come to.
pub mod Written
