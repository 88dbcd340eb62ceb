-- Laws of added seals, of the rows of masks, and of lists of seals.
pub mod AddedLaws
pub mod RowLaws
pub mod RoomLaws
pub mod ListLaws
