pub mod LinkTable
pub mod ChainRows
pub mod Labels
pub mod Filling
pub mod Opening
