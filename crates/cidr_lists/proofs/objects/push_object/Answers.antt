use Rattle.std.proofs.Common.{take}
use Rattle.cidr.specs.either.IpAddress.{address_family, plain_bits}
use Rattle.cidr.specs.texts.PrintedAddress.{ip_text}
use Rattle.cidr_lists.proofs.LookObjects.{none_pushed, some_pushed}
use Rattle.cidr_lists.proofs.objects.push_object.Goals as goal

pub returns-in_ok-push_found-in-Some : goal.returns-in_ok-push_found-in-Some
returns-in_ok-push_found-in-Some c =
    rw c.in-Some.is
    (some_pushed (address_family c.args.address.now) (ip_text c.args.address.now) (take c.in-Some.len (plain_bits c.args.address.now)) c.in-Some.value.now
    c.args.text.now.items c.extend_from_slice.new.self.items c.extend_from_slice-2.new.self.items c.push_found.new.text.items
    c.in_ok-extend_from_slice.ensures.items
    (rw (c.as_bytes.ensures.value, c.as_str.ensures.value, c.to_text.ensures.text) at c.in_ok-extend_from_slice-2.ensures.items)
    c.in_ok-push_found-in-Some.ensures)

pub returns-in_ok-extend_from_slice-in-None : goal.returns-in_ok-extend_from_slice-in-None
returns-in_ok-extend_from_slice-in-None c =
    rw c.in-None.is
    (none_pushed (address_family c.args.address.now) (ip_text c.args.address.now)
    c.args.text.now.items c.extend_from_slice.new.self.items c.extend_from_slice-2.new.self.items c.extend_from_slice-in-None.new.self.items
    c.in_ok-extend_from_slice.ensures.items
    (rw (c.as_bytes.ensures.value, c.as_str.ensures.value, c.to_text.ensures.text) at c.in_ok-extend_from_slice-2.ensures.items)
    c.in_ok-extend_from_slice-in-None.ensures.items)
