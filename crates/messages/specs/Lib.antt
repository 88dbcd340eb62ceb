-- Messages as the rules speak of them, and the set that a table of rows stands for.
pub mod Meaning
pub mod Rows
pub mod Stored
