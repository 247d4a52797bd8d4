pub mod Report
pub mod Ratio
pub mod Laws
