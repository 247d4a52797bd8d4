pub mod Witness
pub mod Rules
pub mod Judged
pub mod Verdict
pub mod Text
pub mod Outcome
pub mod Reading
pub mod Answers
