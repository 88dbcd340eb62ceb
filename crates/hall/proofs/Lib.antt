-- The lemmas about a hall: its state as a function of the seat, and the steps of a call.
pub mod Deliveries
pub mod Counts
pub mod Updates
pub mod Rules
pub mod Steps
pub mod Ranges
pub mod Proposals
pub mod Openings
pub mod Forgeries
pub mod Sealings
