pub mod Slot
pub mod Standing
pub mod Chain
pub mod Walk
pub mod Accepted
