pub mod Canonical
pub mod Joining
pub mod Listing
pub mod Whole
