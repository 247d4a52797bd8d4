pub mod Field
pub mod Table
pub mod Rest
pub mod Rows
pub mod Errors
