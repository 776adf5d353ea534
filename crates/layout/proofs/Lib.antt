pub mod Bounds
pub mod Ranges
pub mod RunEnds
pub mod Holding
pub mod Measures
pub mod RowRecords
