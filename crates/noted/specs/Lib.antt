-- Noted blocks as the rules speak of them.
pub mod Flags
pub mod Meaning
