pub mod Point
pub mod Arrays
pub mod Run
pub mod PlanAxes
