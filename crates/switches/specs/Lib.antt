-- The switches of summer time, where in its year each lies, and that it is on the last Sunday of its month.
pub mod Switches
pub mod LongMonths
pub mod Years
pub mod Sundays
