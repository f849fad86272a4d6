pub mod IdText
pub mod AnswerText
pub mod DumpText
pub mod ReportText
