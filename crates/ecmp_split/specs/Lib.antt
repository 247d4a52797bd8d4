pub mod Equal
pub mod Laws
pub mod Next
pub mod Hops
pub mod Rule
