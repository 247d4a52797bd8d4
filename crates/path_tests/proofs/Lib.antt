pub mod RoutingThirds
pub mod RoutingHalves
