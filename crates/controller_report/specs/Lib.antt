pub mod Inner
pub mod SoloReport
pub mod SoloSummary
