use Rattle.std.proofs.Common.{sym, ◌∙◌, append_assoc, codes}
use Rattle.cidr.specs.either.IpHost.{host_address}
use Rattle.cidr.specs.either.IpNetwork.{network_family, network_prefix}
use Rattle.cidr.specs.texts.PrintedAddress.{ip_text}
use Rattle.cidr_ext.specs.model.Inside.{usable_of}
use Rattle.cidr_lists.proofs.Hosts.{first_and_last}
use Rattle.cidr_lists.proofs.descriptions.usable_text.Goals as goal

pub returns-in-Some-next_back : goal.returns-in-Some-next_back
returns-in-Some-next_back c =
    rw (
      c.push_str-in-Some-next_back-2.ensures.bytes,
      c.push_str-in-Some-next_back.ensures.bytes,
      c.push_str-2.ensures.bytes,
      c.new-text.ensures,
      c.as_str.ensures.value,
      c.to_text.ensures.text,
      c.address.ensures.value,
      c.as_str-in-Some-next_back.ensures.value,
      c.to_text-in-Some-next_back.ensures.text,
      c.address-in-Some-next_back.ensures.value,
    )
    (append_assoc (ip_text (host_address c.in-Some.first)) (codes "-") (ip_text (host_address c.in-Some-next_back.last))
    ∙ first_and_last c.in-Some.first c.in-Some-next_back.last (usable_of (network_family c.args.network.now) (network_prefix c.args.network.now)) c.next.new.self
    c.next_back.new.self (sym c.usable_hosts-hosts.ensures ∙ c.in-Some.ensures.steps) c.in-Some-next_back.ensures.steps)
