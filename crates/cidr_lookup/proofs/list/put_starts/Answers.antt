use Rattle.std.proofs.Common.{refl, sym, ap, ◌∙◌, arith, ◌+◌, ◌++◌, ◌∷◌, map}
use Rattle.std.proofs.lemmas.List.{append-nil}
use Rattle.cidr_lookup.specs.Searching.{change_word}
use Rattle.cidr_lookup.specs.Ranges.{changes_from}
use Rattle.cidr_lookup.proofs.Lists.{all_left, next_word, no_changes_left, not_put, one_put, words_left}
use Rattle.cidr_lookup.proofs.Nodes.{on_err}
use Rattle.cidr_lookup.proofs.list.put_starts.Goals as goal

pub loop-at-init : goal.loop-at-init
loop-at-init g c = record {
  kept = refl;
  put = ap (λ cs. g.S.Sink.put c.args.sink.now ++ map change_word cs)
      (all_left g.A.Address.padding (map g.A.Address.value c.args.starts.now) c.args.answers.now c.args.from c.args.count);
}

pub returns-in_err-push-clause-kept : goal.returns-in_err-push-clause-kept
returns-in_err-push-clause-kept g c = c.push.ensures.kept ∙ c.loop-at.invariant.kept

pub returns-in_err-push-clause-stopped : goal.returns-in_err-push-clause-stopped
returns-in_err-push-clause-stopped g c =
    let starts = map g.A.Address.value c.args.starts.now in
    let answers = c.args.answers.now in
    let put = g.S.Sink.put c.loop-at.sink in
    let all = g.S.Sink.put c.args.sink.now ++ map change_word (changes_from g.A.Address.padding starts answers c.args.from c.args.count) in
    let next = next_word change_word g.A.Address.padding starts answers c.args.from c.args.count c.loop-at.at c.loop-at-test.true ∙ ap (λ word. word ∷ words_left change_word g.A.Address.padding starts answers c.args.from c.args.count (c.loop-at.at + 1)) (sym c.word_of.ensures) in
    on_err c.from_residual.result (not_put put (words_left change_word g.A.Address.padding starts answers c.args.from c.args.count (c.loop-at.at + 1)) all c.word_of.result
    (g.S.Sink.put c.push.new.self) (g.S.Sink.refuses c.push.new.self) (ap (λ x. put ++ x) (sym next) ∙ c.loop-at.invariant.put) c.in_err-push.ensures.refused.0 c.in_err-push.ensures.refused.1)

pub loop-at-preserved : goal.loop-at-preserved
loop-at-preserved g c = record {
  kept = c.push.ensures.kept ∙ c.loop-at.invariant.kept;
  put =
      let starts = map g.A.Address.value c.args.starts.now in
      let answers = c.args.answers.now in
      let put = g.S.Sink.put c.loop-at.sink in
      let all = g.S.Sink.put c.args.sink.now ++ map change_word (changes_from g.A.Address.padding starts answers c.args.from c.args.count) in
      let next = next_word change_word g.A.Address.padding starts answers c.args.from c.args.count c.loop-at.at c.loop-at-test.true ∙ ap (λ word. word ∷ words_left change_word g.A.Address.padding starts answers c.args.from c.args.count (c.loop-at.at + 1)) (sym c.word_of.ensures) in
      one_put put (words_left change_word g.A.Address.padding starts answers c.args.from c.args.count (c.loop-at.at + 1)) all c.word_of.result
      (g.S.Sink.put c.push.new.self) (ap (λ x. put ++ x) (sym next) ∙ c.loop-at.invariant.put) c.in_ok-push.ensures.put;
}

pub returns-clause-kept : goal.returns-clause-kept
returns-clause-kept g c = c.loop-at.invariant.kept

pub returns-clause-put : goal.returns-clause-put
returns-clause-put g c =
    let put = g.S.Sink.put c.loop-at.sink in
    let none = no_changes_left g.A.Address.padding (map g.A.Address.value c.args.starts.now) c.args.answers.now c.args.from c.args.count c.loop-at.at (omega arith) in
    sym (append-nil put) ∙ (ap (λ cs. put ++ map change_word cs) (sym none) ∙ c.loop-at.invariant.put)
