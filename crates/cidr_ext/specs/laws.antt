-- What a trait cites.
pub mod Families
