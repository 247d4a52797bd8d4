pub mod Survival
mod Existence
mod Faultless
mod LinkSums
mod Judged
mod Guards
pub mod Verdicts
pub mod Files
pub mod PairLines
pub mod ReadRates
pub mod OneRates
pub mod Words
pub mod Making
pub mod Raising
pub mod SomeProtection
pub mod ShortTexts
pub mod Answered
pub mod SomeAnswers
