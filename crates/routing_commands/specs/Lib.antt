pub mod CheckRates
pub mod Protect
pub mod CheckHose
pub mod BoundHose
pub mod Update
