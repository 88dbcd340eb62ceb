-- The state of a hall in the terms of the rules, and what its calls answer and leave.
pub mod Faults
pub mod Worlds
pub mod Answers
pub mod Steps
