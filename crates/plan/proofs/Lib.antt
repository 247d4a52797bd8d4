mod PlanLemmas
mod ValueRanges
pub mod Ranges
