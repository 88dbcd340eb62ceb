-- Calls as the rules speak of them.
pub mod Asked
