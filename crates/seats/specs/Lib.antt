-- Seats as the rules speak of them, their refusals, and what their rules owe.
pub mod Faults
pub mod Sent
pub mod Seated
pub mod Desk
pub mod Searches
pub mod Standings
