pub mod ReportFields
pub mod SideSlots
