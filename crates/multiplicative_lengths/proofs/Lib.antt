pub mod EachLink
pub mod LengthLimits
pub mod Multiplying
pub mod Rounds
pub mod Loading
