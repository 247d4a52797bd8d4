pub mod Commands
pub mod Converted
pub mod Run
pub mod Clauses
pub mod Asked
