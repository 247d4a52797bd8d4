pub mod Valiant
pub mod Legs
pub mod Even
pub mod Laws
