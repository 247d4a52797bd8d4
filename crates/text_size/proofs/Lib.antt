pub mod Widths
pub mod LineSizes
pub mod ValidSizes
