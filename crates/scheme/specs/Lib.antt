pub mod Reach
pub mod Fault
pub mod Fixed
pub mod Toward
pub mod Least
pub mod Adaptive
pub mod Low
pub mod Laws
