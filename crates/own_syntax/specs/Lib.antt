pub mod Routes
pub mod Syntax
