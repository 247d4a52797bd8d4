pub mod HeadCounts
pub mod Updating
pub mod CheckingRates
pub mod Protecting
pub mod CheckingHoses
pub mod BoundingHoses
