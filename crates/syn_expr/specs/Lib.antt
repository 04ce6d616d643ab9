pub mod Cores
pub mod Expressions
pub mod Falls
pub mod Fields
pub mod Prints
pub mod Statements
