mod CommaLists
mod Defaults
pub mod Fields
pub mod Inputs
mod Members
mod Skipped
