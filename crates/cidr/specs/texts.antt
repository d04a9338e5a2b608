-- Which strings represent which value, what is printed, and the error of a string that represents none.
pub mod Ipv4Text
pub mod Ipv6Text
pub mod AddressText
pub mod NetworkText
pub mod Refusal
pub mod HostText
pub mod Parsing
pub mod Results
pub mod Canonical
pub mod PrintedAddress
pub mod Printed
pub mod Messages
pub mod LooseText
pub mod ShortText
