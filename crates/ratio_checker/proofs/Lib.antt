pub mod Ascending
pub mod WeightOn
mod Covering
pub mod RowFailures
pub mod NoWeights
pub mod SourceRows
pub mod UncoveredLinks
pub mod LinkPairLists
pub mod SimplePaths
pub mod Sizes
pub mod Absent
pub mod FedBlocks
pub mod MoreBlocks
pub mod FormedHeads
pub mod Validity
pub mod Verdicts
mod Weighed
