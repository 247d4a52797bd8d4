pub mod Classes
pub mod Search
pub mod Even
pub mod Outgoing
pub mod Ways
pub mod Sums
pub mod Laws
