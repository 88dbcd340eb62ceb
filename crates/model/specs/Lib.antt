-- The rules of a hall and what is promised of them, in the order in which they build on one another.
pub mod Setup
pub mod World
pub mod Checks
pub mod Seats
pub mod Effects
pub mod Journal
pub mod Promises
pub mod Runs
pub mod Misreadings
