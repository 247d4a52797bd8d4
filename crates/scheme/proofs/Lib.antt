pub mod Plans
pub mod Towards
pub mod LeastSplit
pub mod Reaching
pub mod Existence
