pub mod SimulationFiles
pub mod Simulating
pub mod UpgradedAlike
