pub mod Transport
pub mod Ways
