pub mod Falls
pub mod Macros
pub mod PathForms
pub mod Patterns
pub mod Ties
