-- What a trait cites.
pub mod Combining
