-- Plans as the rules speak of them, and their refusals.
pub mod Tables
pub mod Planned
pub mod Places
pub mod Faults
pub mod Setup
