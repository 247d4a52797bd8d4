pub mod NetworkFile
pub mod RoutedMatrices
pub mod SimulationReasons
pub mod Simulate
