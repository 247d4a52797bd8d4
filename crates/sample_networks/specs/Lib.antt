pub mod Literals
pub mod Networks
