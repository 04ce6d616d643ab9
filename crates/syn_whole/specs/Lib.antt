pub mod HiddenGroups
