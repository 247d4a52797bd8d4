pub mod Schemes
pub mod Envelope
pub mod Published
pub mod Text
pub mod Report
pub mod SchemeTexts
pub mod Laws
