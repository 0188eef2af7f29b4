-- The calendar: spans one after another, years, months and Sundays, and their laws.
pub mod Tests
pub mod Spans
pub mod Calendar
pub mod Near
pub mod Dates
pub mod Days
