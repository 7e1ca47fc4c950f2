pub mod ReportLaws
