mod Sweeping
pub mod AdaptedRoutings
