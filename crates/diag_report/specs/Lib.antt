pub mod EndPart
pub mod Judgements
pub mod Report
pub mod ScanByScan
pub mod ScanPart
pub mod Summary
pub mod Worked
