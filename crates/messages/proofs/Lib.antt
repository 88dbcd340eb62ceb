-- The lemmas about the rows of a set.
pub mod RowLaws
