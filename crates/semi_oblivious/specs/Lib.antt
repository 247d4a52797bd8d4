pub mod Semi
pub mod Lengths
pub mod Sweeps
pub mod Laws
