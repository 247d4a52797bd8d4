pub mod Failed
pub mod Series
pub mod Survivor
pub mod File
