pub mod Draws
pub mod Mix
pub mod Racke
pub mod Laws
