-- The two conversions as the planner calls them, and what their answers mean.
pub mod Exported
pub mod Answers
pub mod Examples
