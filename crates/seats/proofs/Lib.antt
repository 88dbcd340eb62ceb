-- The lemmas about seats.
pub mod Finds
pub mod Posting
pub mod RuleLaws
pub mod Judged
pub mod Chains
pub mod Iterators
pub mod Beginnings
