-- The lemmas about walks from a block to the root and about tables.
pub mod WalkSteps
pub mod Unmade
