pub mod Members
pub mod Usage
pub mod Neediest
pub mod Means
pub mod Count
