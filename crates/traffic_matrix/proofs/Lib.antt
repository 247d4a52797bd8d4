mod RowLemmas
mod NodeLemmas
mod TableLemmas
mod PairLists
mod DemandLemmas
mod Reading
pub mod LimitLemmas
pub mod GravityLemmas
pub mod FirstMatrix
mod PairDemands
mod PairUnion
pub mod TrafficLemmas
pub mod OutsideRows
mod TextLemmas
mod FieldText
mod RowText
mod Written
mod ReadBack
