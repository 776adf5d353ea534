pub mod ChainReads
pub mod LabelLoops
pub mod RowLoops
pub mod Labels
pub mod Roots
