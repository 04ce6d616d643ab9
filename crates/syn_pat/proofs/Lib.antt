pub mod ExpressionPaths
pub mod Lists
pub mod Macros
pub mod PathLists
pub mod PathWords
pub mod PatternLists
pub mod Patterns
pub mod TraitPaths
