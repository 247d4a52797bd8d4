pub mod Amounts
pub mod Moves
pub mod Lowering
pub mod Values
pub mod Reaching
pub mod Improving
pub mod Starting
