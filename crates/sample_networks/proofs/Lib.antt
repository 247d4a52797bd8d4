pub mod PathRoutings
