mod InputReads
pub mod Publishing
pub mod Reporting
pub mod BreakingDown
pub mod Drawing
