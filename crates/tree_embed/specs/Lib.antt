pub mod Embedding
pub mod Centers
pub mod Chains
pub mod TreePaths
pub mod Tables
pub mod Laws
