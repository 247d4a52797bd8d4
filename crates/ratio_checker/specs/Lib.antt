pub mod Ascending
pub mod Checked
pub mod Feeds
pub mod Finding
pub mod Shares
pub mod Uncovered
