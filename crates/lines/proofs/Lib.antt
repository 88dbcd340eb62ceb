-- Lemmas on lines.
pub mod OutputLaws
pub mod LineLaws
pub mod PairLaws
pub mod WriterLaws
