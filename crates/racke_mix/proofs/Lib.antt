mod LinkLimits
mod Ordering
mod PathLinks
mod Loading
mod Mixing
mod TreeSplits
mod OrdersExist
mod MixesExist
pub mod Existence
