mod RowLemmas
pub mod NetworkLemmas
pub mod Sweeping
