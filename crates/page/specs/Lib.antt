-- A page: from the bytes of a submission to the bytes of its record.
pub mod Reading
pub mod Refusals
pub mod First
pub mod Setups
pub mod Alike
pub mod Ranks
pub mod Record
pub mod Calls
pub mod Run
pub mod Shape
pub mod Journals
pub mod Listing
