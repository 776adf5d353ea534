pub mod Lawful
pub mod SlashLaws
pub mod Laws
pub mod Examples
