pub mod Added
pub mod LastLinks
pub mod Products
pub mod Usages
pub mod WayBack
pub mod Weights
