use Rattle.std.proofs.Common.{◌≡◌, ◌∙◌, ◌<◌, ◌≤◌, length, Some, None, sym, ap, subst, arith}
use Rattle.std.specs.Option.{option_copied}
use Rattle.cidr_forwarding.proofs.Nodes.{rest_first, rest_default}
use Rattle.cidr_forwarding.proofs.halves.longer.Goals as goal
use Rattle.cidr_forwarding.proofs.halves.longer.Goals.{in_default-via-in-Some+else-len-depth, in_default-via-in_default}

pub returns-in-Some-clause-rest : goal.returns-in-Some-clause-rest
returns-in-Some-clause-rest g c =
    let l : length (g.C.BitString.bits c.in-Some.row.now.0) ≤ c.args.depth = omega (arith, c.len.ensures.value, c.if-len-depth.true) in
    rest_first g.C.BitString.bits c.args.depth c.args.inherited c.args.rows.now c.in-Some.row.now c.in-Some.ensures.value c.requires l

pub returns-in_default-clause-rest : goal.returns-in_default-clause-rest
returns-in_default-clause-rest g c =
    rest_default g.C.BitString.bits c.args.depth c.args.inherited c.args.rows.now c.requires (λ r e. elim c.in_default.branch [
      | in_default-via-in-Some+else-len-depth w ↦
          let l : c.args.depth < length (g.C.BitString.bits w.in-Some.row.now.0) = omega (arith, w.len.ensures.value, w.if-len-depth.false) in
          let f : w.in-Some.row.now ≡ r = cc (w.in-Some.ensures.value, e) in
          subst (λ x. c.args.depth < length (g.C.BitString.bits x.0)) f l
      | in_default-via-in_default w ↦
          let n : Some r ≡ None = e ∙ sym c.first.ensures.value ∙ ap option_copied w.in_default.is in
          absurd (cc)
    ])
