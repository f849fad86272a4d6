pub mod Results
pub mod SeatLaws
pub mod Steps
pub mod Showing
pub mod ReportTexts
