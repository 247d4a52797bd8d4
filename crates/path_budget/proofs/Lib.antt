pub mod Heaviest
pub mod Trimming
