pub mod Rates
pub mod Recovery
pub mod Spread
pub mod Laws
