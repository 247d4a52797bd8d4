pub mod RecordLemmas
mod ReaderLemmas
pub mod FieldFacts
pub mod RowFacts
pub mod WriteLemmas
