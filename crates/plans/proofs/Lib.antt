-- The lemmas about plans.
pub mod Lawfulness
pub mod Drawn
pub mod Likeness
pub mod Fresh
pub mod Places
pub mod Filled
