-- What the calls return, as relations between lists of bits.
pub mod Tree
pub mod Subnets
pub mod Inside
pub mod InsideIpv6
pub mod Special
