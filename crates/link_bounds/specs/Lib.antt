pub mod SameLinks
pub mod Needs
pub mod Table
pub mod Proved
pub mod Bounds
pub mod Feeds
pub mod Repriced
pub mod Laws
