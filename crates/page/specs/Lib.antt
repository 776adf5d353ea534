pub mod Reading
pub mod Number
pub mod Page
