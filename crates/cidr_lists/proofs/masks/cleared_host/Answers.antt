use Rattle.std.proofs.Common.{◌≡◌, refl, sym, ◌∙◌, ap, Bool, true, false, not, arith}
use Rattle.std.proofs.lemmas.Bool.{true≢false}
use Rattle.cidr.specs.either.IpHost.{host_parts}
use Rattle.cidr_lists.proofs.MaskedTexts.{not_cleared}
use Rattle.cidr_lists.proofs.masks.cleared_host.Goals as goal
use Rattle.cidr_lists.proofs.masks.cleared_host.Goals.{else-network_length-eq0-via-then-network_length-eq0+else-ne, else-network_length-eq0-via-else-network_length-eq0}

is_true : (r b : Bool) → r ≡ not b → r ≡ false → b ≡ true
is_true r true is off = refl
is_true r false is off = absurd (true≢false (sym is ∙ off))

pub returns-in_default : goal.returns-in_default
returns-in_default c = λ host is. c.in_default.ensures host is.0

pub returns-then-ne : goal.returns-then-ne
returns-then-ne c =
    let none : (host_parts c.in-Some.host).len ≡ 0 = omega (arith, c.network_length.ensures.value) in
    not_cleared c.args.text.now c.in-Some.host c.in-Some.ensures none (λ same. true≢false (sym c.if-ne.true ∙ (c.ne.ensures
    ∙ ap (λ (b : Bool). not b) ((c.equal_hosts_are_the_same.ensures.eq c.first.result c.in-Some.host).1 (c.first.ensures ∙ same)))))

pub returns : goal.returns
returns c = elim c.else-network_length-eq0.branch [
  | else-network_length-eq0-via-then-network_length-eq0+else-ne w ↦ (
    c.in-Some.host,
    (
      c.in-Some.ensures,
      λ none. sym w.first.ensures ∙ (c.equal_hosts_are_the_same.ensures.eq w.first.result c.in-Some.host).0
          (is_true w.ne.result _ w.ne.ensures w.if-ne.false),
    ),
    c.network.ensures,
  )
  | else-network_length-eq0-via-else-network_length-eq0 w ↦ (
    c.in-Some.host,
    (c.in-Some.ensures, λ none. let zero : c.network_length.result ≡ 0 = c.network_length.ensures.value ∙ none in absurd (omega (arith, zero))),
    c.network.ensures,
  )
]
