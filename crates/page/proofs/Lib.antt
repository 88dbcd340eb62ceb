-- Lemmas of the page.
pub mod FirstLaws
pub mod RankLaws
pub mod LineLaws
pub mod AnswerLaws
pub mod RecordLaws
pub mod JournalLaws
pub mod Worked
