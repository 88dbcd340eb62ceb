-- Laws of judged and copied ranks.
pub mod Judging
