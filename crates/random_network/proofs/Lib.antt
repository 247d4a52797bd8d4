mod Drawing
pub mod Formed
pub mod Connected
