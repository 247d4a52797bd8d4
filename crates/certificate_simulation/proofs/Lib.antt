pub mod HeadPairs
pub mod RatioRows
pub mod Existence
pub mod ReportLines
