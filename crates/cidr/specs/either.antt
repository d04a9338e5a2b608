-- Addresses, networks, hosts and pairs of either family, and what they are as strings.
pub mod IpAddress
pub mod StdAddress
pub mod IpNetwork
pub mod IpHost
pub mod IpPair
pub mod IpText
pub mod ByFamily
