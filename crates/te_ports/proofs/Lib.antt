pub mod Giving
pub mod Recording
pub mod Trying
pub mod Walks
pub mod WrittenSoFar
