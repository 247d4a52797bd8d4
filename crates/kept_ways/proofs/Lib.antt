pub mod Amounts
pub mod Found
pub mod LinksTo
pub mod Measured
