pub mod PlanReads
pub mod Streaming
pub mod Feeding
pub mod Regular
pub mod PlanFiles
pub mod WitnessFiles
pub mod CapacityFiles
pub mod MeantFiles
mod Generating
