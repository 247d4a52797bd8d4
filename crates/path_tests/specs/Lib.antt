pub mod RoutingSamples
