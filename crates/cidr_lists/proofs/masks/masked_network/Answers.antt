use Rattle.std.proofs.Common.{◌≡◌, sym, ◌∙◌, ap, subst}
use Rattle.std.proofs.lemmas.Bool.{true≢false}
use Rattle.cidr.specs.either.IpHost.{host_at}
use Rattle.cidr.specs.model.Host.{first_host}
use Rattle.cidr.specs.declared.inet.combined.IpInet.{IpInet}
use Rattle.cidr_lists.specs.Masks.{IsMaskedHost}
use Rattle.cidr_lists.proofs.MaskedTexts.{no_other_network}
use Rattle.cidr_lists.proofs.masks.masked_network.Goals as goal

pub returns-in_default : goal.returns-in_default
returns-in_default c = λ network is. c.in_default.ensures (host_at first_host network) is

pub returns-then-eq : goal.returns-then-eq
returns-then-eq c =
    let same : c.first.result ≡ c.in-Some.host = (c.equal_hosts_are_the_same.ensures.eq c.first.result c.in-Some.host).0 (sym c.eq.ensures ∙ c.if-eq.true) in
    subst (λ (h : IpInet). IsMaskedHost c.args.text.now h) (sym (ap (host_at first_host) c.network.ensures ∙ (sym c.first.ensures ∙ same))) c.in-Some.ensures

pub returns-else-eq : goal.returns-else-eq
returns-else-eq c =
    no_other_network c.args.text.now c.in-Some.host c.in-Some.ensures
    (λ same. true≢false (sym (c.eq.ensures ∙ (c.equal_hosts_are_the_same.ensures.eq c.first.result c.in-Some.host).1 (c.first.ensures ∙ same)) ∙ c.if-eq.false))
