pub mod Searching
pub mod Places
pub mod Orders
pub mod Trees
pub mod Right
pub mod Agreement
pub mod Promises
