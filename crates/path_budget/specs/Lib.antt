pub mod Budget
