pub mod Files
pub mod Reading
pub mod Order
pub mod Sound
pub mod Table
pub mod Run
pub mod Outcome
pub mod Clauses
