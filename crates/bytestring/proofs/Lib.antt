pub mod Tools
pub mod Equal
pub mod Lending
