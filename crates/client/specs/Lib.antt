-- The definitions that the contracts of this crate cite.
pub mod Mirrored
pub mod Labelled
pub mod Tried
pub mod Sizes
