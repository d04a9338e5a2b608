use Rattle.std.proofs.Common.{sym, ap, subst, arith, inr, ℕ, ◌+◌, ◌*◌, ◌^◌, map, get_or}
use Rattle.cidr_lookup.specs.Keys.{key_networks}
use Rattle.cidr_lookup.specs.Nodes.{list}
use Rattle.cidr_lookup.specs.Putting.{StopsBefore}
use Rattle.cidr_lookup.specs.Ranges.{changes_from}
use Rattle.cidr_lookup.specs.Tables.{IsAnswer}
use Rattle.cidr_lookup.proofs.BlockAnswers.{one_answer}
use Rattle.cidr_lookup.proofs.Entries.{list_entry, own_list}
use Rattle.cidr_lookup.proofs.Lists.{changes_long}
use Rattle.cidr_lookup.proofs.Nodes.{on_err}
use Rattle.cidr_lookup.proofs.building.put_listed.Goals as goal

pub returns-then-index-ge-MOST_WORDS-clause-stopped : goal.returns-then-index-ge-MOST_WORDS-clause-stopped
returns-then-index-ge-MOST_WORDS-clause-stopped g c = λ entry after known.
    let w = g.A.Address.width in
    let padding = g.A.Address.padding in
    let networks = key_networks g.A.Address.value c.args.keys.now in
    let value = get_or c.args.answers.now c.args.range 0 in
    let changes = changes_from padding (map g.A.Address.value c.args.starts.now) c.args.answers.now (c.args.range + 1) c.args.count in
    inr (
      omega (arith, c.len-index.ensures, c.if-index-ge-MOST_WORDS.true),
      (
        list value changes,
        own_list (IsAnswer w padding networks) (one_answer w padding networks c.requires.keys) c.args.steps c.args.block
            (g.S.Sink.put c.args.sink.now) entry after value changes c.requires.list known,
      ),
    )

pub returns-in_err-put_list-clause-stopped : goal.returns-in_err-put_list-clause-stopped
returns-in_err-put_list-clause-stopped g c =
    let w = g.A.Address.width in
    let padding = g.A.Address.padding in
    let networks = key_networks g.A.Address.value c.args.keys.now in
    let value = get_or c.args.answers.now c.args.range 0 in
    let changes = changes_from padding (map g.A.Address.value c.args.starts.now) c.args.answers.now (c.args.range + 1) c.args.count in
    on_err c.from_residual.result (λ entry after known. subst (λ x. StopsBefore (g.S.Sink.put c.put_list.new.sink) (g.S.Sink.refuses c.put_list.new.sink) x)
    (sym (own_list (IsAnswer w padding networks) (one_answer w padding networks c.requires.keys) c.args.steps c.args.block (g.S.Sink.put c.args.sink.now) entry after value changes
    c.requires.list known)) c.in_err-put_list.ensures.stopped)

pub put_list-requires-clause-few : goal.put_list-requires-clause-few
put_list-requires-clause-few g c =
    omega (arith, c.requires.list.1, changes_long g.A.Address.padding (map g.A.Address.value c.args.starts.now) c.args.answers.now (c.args.range + 1) c.args.count)

pub returns-clause-entry : goal.returns-clause-entry
returns-clause-entry g c =
    let padding = g.A.Address.padding in
    list_entry (IsAnswer g.A.Address.width padding (key_networks g.A.Address.value c.args.keys.now)) c.args.steps c.args.block (g.S.Sink.put c.args.sink.now) (2 ^ 31 + 2 * c.len-index.result + 1)
    (g.S.Sink.put c.put_list.new.sink) (get_or c.args.answers.now c.args.range 0)
    (changes_from padding (map g.A.Address.value c.args.starts.now) c.args.answers.now (c.args.range + 1) c.args.count) c.requires.list
    (ap (λ (n : ℕ). 2 ^ 31 + 2 * n + 1) c.len-index.ensures) c.in_ok-put_list.ensures.put
