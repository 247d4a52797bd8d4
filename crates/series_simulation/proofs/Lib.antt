pub mod KeptPreparations
mod Order
mod Mapping
mod Surviving
mod Paths
mod Demands
pub mod SeriesLemmas
mod StandingRates
mod StandingPairs
mod Carried
mod ByPlan
mod StepRoutings
pub mod Rowing
pub mod Marking
pub mod Repeating
pub mod Existence
pub mod Kept
pub mod Standing
pub mod Predictions
