-- Lemmas on the frames of a record.
pub mod FrameLaws
