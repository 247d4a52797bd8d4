pub mod Amounts
pub mod KeptWays
