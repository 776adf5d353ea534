pub mod Key
pub mod Layer
pub mod Inner
