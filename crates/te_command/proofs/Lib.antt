pub mod Alike
pub mod WitnessedAlike
pub mod UpdatedAlike
pub mod ProtectedAlike
pub mod HosesAlike
pub mod SimulatedAlike
pub mod Table
