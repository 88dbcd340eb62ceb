-- The definitions that the contracts of this crate cite.
pub mod Ranks
pub mod Rotated
pub mod Faults
pub mod Made
