-- What the headline says, and what an access list, a pool of addresses, a line of a configuration, a free network, the parts
-- of a network and a route are.
pub mod AccessList
pub mod AddressPool
pub mod ConfigLine
pub mod Consequences
pub mod FreeNetworks
pub mod Headline
pub mod Parts
pub mod Reading
pub mod Routing
pub mod WalkCalls
