pub mod Digests
pub mod Rows
pub mod Trees
