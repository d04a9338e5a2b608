-- What C has: values, the numbers of errors, networks, IPv4 inside IPv6, texts, orders, the registry, addresses of lists, pools,
-- access lists, routes, forwarding, tables, files, and MaxMind DB files.
pub mod Values
pub mod Codes
pub mod Networks
pub mod InsideIpv6
pub mod Texts
pub mod Orders
pub mod Special
pub mod Addresses
pub mod Pools
pub mod Rules
pub mod Routes
pub mod Forwarding
pub mod Tables
pub mod Files
pub mod Mmdb
