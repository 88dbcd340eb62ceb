-- The definitions that the contracts of this crate cite.
pub mod Seals
pub mod Rows
pub mod Listed
pub mod Lending
