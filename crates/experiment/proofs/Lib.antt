mod RoutingWithin
mod Envelopes
mod PublishedSets
pub mod JoinedFields
mod Reports
mod SchemeTexts
pub mod SchemeLines
mod ByName
mod Seeds
pub mod Accepted
pub mod SchemePlans
pub mod Existence
mod Predictions
mod Adapted
