pub mod Attributes
pub mod Else
pub mod Fields
pub mod Forms
pub mod Lists
pub mod Moving
pub mod Statements
