pub mod FirstGreatest
pub mod NearestDemands
pub mod UsedBlocks
