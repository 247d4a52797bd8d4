pub mod Table
pub mod Outcome
pub mod Reading
pub mod Leaving
pub mod Due
pub mod Passing
pub mod TakingDue
pub mod Rules
