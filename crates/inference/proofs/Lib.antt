pub mod Results
pub mod Owned
pub mod KeptDemands
pub mod Faithful
pub mod Calls
pub mod Growing
