pub mod Generate
pub mod Publish
pub mod Report
pub mod BreakDown
