-- The definitions that the contracts of this crate cite.
pub mod Count
pub mod Put
pub mod Bit
pub mod Numbers
pub mod Contents
pub mod Elements
