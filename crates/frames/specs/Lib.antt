-- Frames, as the rules of the page speak of them.
pub mod Frames
pub mod Shape
