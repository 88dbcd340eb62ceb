-- Lemmas on noted blocks.
pub mod Searches
