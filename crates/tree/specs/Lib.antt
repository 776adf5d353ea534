pub mod Tree
pub mod Record
pub mod Table
pub mod Judge
pub mod Place
pub mod OnePage
