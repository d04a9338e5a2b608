use Rattle.std.proofs.Common.{ℕ}
use Rattle.cidr.specs.declared.addr.ip.IpAddr.{IpAddr}
use Rattle.cidr.specs.either.IpAddress.{address_family, plain_bits}
use Rattle.cidr.specs.model.Network.{width_of}
use Rattle.cidr_c.specs.calls.Calls.{IsAnyValue}
use Rattle.cidr_c.proofs.Sought.{sought}
use Rattle.cidr_c.specs.model.Values.{IsAddressValue, address_in}
use Rattle.cidr_ext.specs.model.Inside.{IsMaskOf}
use Rattle.cidr_c.proofs.masks.pcidr_mask_length.Goals as goal

pub returns-in-Some : goal.returns-in-Some
returns-in-Some c =
    sought (IsAddressValue c.args.address.now) (λ (a : IpAddr). (n : ℕ) → ¬ (IsMaskOf (width_of (address_family a)) n (plain_bits a))) IsAnyValue
    (λ n. n) (λ (a : IpAddr) (n : ℕ). IsMaskOf (width_of (address_family a)) n (plain_bits a))
    c.in-Some.address (address_in c.args.address.now) c.mask_length.result c.args.len.now c.put_plain.new.out c.put_plain.result
    c.in-Some.ensures c.mask_length.ensures c.put_plain.ensures
