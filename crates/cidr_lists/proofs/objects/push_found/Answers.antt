use Rattle.std.proofs.Common.{◌∷◌, [], ◌++◌, codes, take}
use Rattle.cidr.specs.either.IpAddress.{address_family, plain_bits}
use Rattle.cidr_lists.specs.Formats.{json, network_by}
use Rattle.cidr_lists.specs.Json.{string_text}
use Rattle.cidr_lists.specs.declared.formats.Notation.TheVariants.{Members}
use Rattle.cidr_lists.proofs.StyledTexts.{four_pushed, three_pushed}
use Rattle.cidr_lists.proofs.objects.push_found.Goals as goal

pub returns : goal.returns
returns c =
    let family = address_family c.args.address.now in
    let members = network_by Members family (take c.args.len (plain_bits c.args.address.now)) in
    let end = (json family).behind in
    let third = c.extend_from_slice-2.new.self.items in
    four_pushed c.args.text.now.items c.extend_from_slice.new.self.items c.push_string.new.text.items third c.push.new.self.items
    (codes "\",\"value\":\"") (string_text c.args.value.now) (codes "\",\"network\":\"") (members ++ (end ++ 10 ∷ []))
    c.in_ok-extend_from_slice.ensures.items c.in_ok-push_string.ensures c.in_ok-extend_from_slice-2.ensures.items
    (three_pushed third c.extend_from_slice-3.new.self.items c.extend_from_slice-4.new.self.items c.push.new.self.items members end (10 ∷ [])
    (rw (c.as_bytes.ensures.value, c.as_str.ensures.value, c.members_of.ensures) at c.in_ok-extend_from_slice-3.ensures.items)
    (rw (c.as_bytes-2.ensures.value, c.end_of.ensures) at c.in_ok-extend_from_slice-4.ensures.items) c.in_ok-push.ensures.items)
