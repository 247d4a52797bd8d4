mod Listed
pub mod CostLimits
