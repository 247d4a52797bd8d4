pub mod Sizes
pub mod Choosing
pub mod SourceRows
pub mod RoutingBounds
pub mod PathBounds
pub mod UnitBrackets
pub mod RoutingBrackets
pub mod PathBrackets
