-- The lemmas: the order of bits, the search by halving, the longest match over it, what is in a network, and what it is in.
pub mod ByBits
pub mod Halving
pub mod Shortening
pub mod KnownLengths
pub mod Insides
pub mod Around
pub mod Moves
