pub mod Dual
pub mod Rows
pub mod GivenPaths
pub mod Choice
pub mod Laws
