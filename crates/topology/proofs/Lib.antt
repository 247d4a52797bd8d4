mod NameText
mod NodeLemmas
mod EntryLemmas
mod RowLemmas
mod WellFormed
mod NumberLemmas
pub mod SoundLemmas
