-- What a value is: lists of bits, addresses, networks, hosts, pairs and walks, and how a result shows it.
pub mod Bits
pub mod Views
pub mod Address
pub mod Network
pub mod Host
pub mod Pair
pub mod Walk
pub mod Calls
pub mod Counted
pub mod BitString
pub mod Errors
