-- The frames of a record.
pub mod Frames
