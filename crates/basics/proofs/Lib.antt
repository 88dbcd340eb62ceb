-- Laws of masks, of a function changed at one number, and of counts.
pub mod BitLaws
pub mod CountLaws
