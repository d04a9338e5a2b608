use Rattle.std.proofs.Common.{◌≡◌, subst, arith, get_or, length, map}
use Rattle.std.proofs.lemmas.List.{length-map}
use Rattle.cidr_lookup.specs.Keys.{key_networks}
use Rattle.cidr_lookup.specs.Nodes.{IsEntry}
use Rattle.cidr_lookup.specs.Tables.{IsAnswer}
use Rattle.cidr_lookup.proofs.BlockAnswers.{whole}
use Rattle.cidr_lookup.proofs.Entries.{value_entry}
use Rattle.cidr_lookup.proofs.Numbers.{length_networks}
use Rattle.cidr_lookup.proofs.building.next_entry.Goals as goal

pub returns-then-block-until-clause-entry : goal.returns-then-block-until-clause-entry
returns-then-block-until-clause-entry g c =
    let w = g.A.Address.width in
    let padding = g.A.Address.padding in
    let networks = key_networks g.A.Address.value c.args.keys.now in
    let starts = map g.A.Address.value c.args.starts.now in
    let k = c.args.near.now in
    let size : length starts ≡ length c.args.starts.now = length-map c.args.starts.now g.A.Address.value in
    value_entry (IsAnswer w padding networks) c.args.steps c.args.block (g.S.Sink.put c.args.sink.now) (get_or c.args.answers.now k 0)
    (whole w padding networks starts c.args.answers.now c.requires.ranges c.args.steps c.args.block k c.requires.block (omega (arith, c.requires.near, size)) c.requires.upto
    (omega (arith, c.requires.few, length_networks g.A.Address.value c.args.keys.now)) (λ l. c.requires.until c.args.block c.if-block-until.true (omega (arith, l, size))))

pub returns-clause-entry : goal.returns-clause-entry
returns-clause-entry g c =
    subst (λ b. IsEntry (IsAnswer g.A.Address.width g.A.Address.padding (key_networks g.A.Address.value c.args.keys.now)) c.args.steps b (g.S.Sink.put c.args.sink.now) c.in_ok-entry.entry
    (g.S.Sink.put c.entry_of.new.sink)) c.from.ensures c.in_ok-entry.ensures.entry
