pub mod Opening
pub mod Telling
pub mod SameValues
