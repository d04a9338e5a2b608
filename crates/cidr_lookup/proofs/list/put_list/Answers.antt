use Rattle.std.proofs.Common.{◌≡◌, refl, sym, ap, subst, ◌∙◌, ℕ, ◌+◌, List, [], ◌∷◌, ◌++◌, length, map, get_or}
use Rattle.std.proofs.lemmas.Result.{on_err_weaker, on_ok_weaker}
use Rattle.cidr_lookup.specs.Nodes.{list}
use Rattle.cidr_lookup.specs.Searching.{change_word}
use Rattle.cidr_lookup.specs.Putting.{StopsBefore}
use Rattle.cidr_lookup.specs.Ranges.{changes_from}
use Rattle.cidr_lookup.proofs.Entries.{stops_more}
use Rattle.cidr_lookup.proofs.Lists.{changes_long, list_put, not_put, starts_put}
use Rattle.cidr_lookup.proofs.Nodes.{on_err}
use Rattle.cidr_lookup.proofs.list.put_list.Goals as goal

-- the words, with the count as it is put
counted : (front : List ℕ) (count value : ℕ) (changes : List (ℕ × ℕ)) → length changes ≡ count
    → front ++ (count ∷ (map change_word changes ++ (value ∷ map (λ (change : ℕ × ℕ). change.1) changes))) ≡ front ++ list value changes
counted front count value changes size = ap (λ n. front ++ (n ∷ (map change_word changes ++ (value ∷ map (λ (change : ℕ × ℕ). change.1) changes)))) (sym size)

module _ (padding : ℕ) (starts answers : List ℕ) (range count : ℕ) (front : List ℕ) where
  abbrev changes : List (ℕ × ℕ)
  changes = changes_from padding starts answers (range + 1) count

  abbrev all : List ℕ
  all = front ++ list (get_or answers range 0) changes

  abbrev rest : List ℕ
  rest = map (λ (change : ℕ × ℕ). change.1) changes

  whole : front ++ (count ∷ (map change_word changes ++ (get_or answers range 0 ∷ rest))) ≡ all
  whole = counted front count (get_or answers range 0) changes (changes_long padding starts answers (range + 1) count)

  module _ (Refuses : ℕ → Type 0) (new : List ℕ) where
    stops_count : new ≡ front → Refuses count → StopsBefore new Refuses all
    stops_count same refused = not_put front (map change_word changes ++ (get_or answers range 0 ∷ rest)) all count new Refuses whole same refused

    module _ (one : List ℕ) (first : one ≡ front ++ count ∷ []) where
      stops_starts : StopsBefore new Refuses (one ++ map change_word changes) → StopsBefore new Refuses all
      stops_starts stopped =
          let starts = map change_word changes in
          stops_more new Refuses (one ++ starts) all (get_or answers range 0 ∷ rest)
          (sym (starts_put front one (one ++ starts) [] count (get_or answers range 0) starts rest first refl ∙ whole)) stopped

      module _ (two : List ℕ) (second : two ≡ one ++ map change_word changes) where
        stops_value : new ≡ two → Refuses (get_or answers range 0) → StopsBefore new Refuses all
        stops_value same refused =
            not_put two rest all (get_or answers range 0) new Refuses
            (starts_put front one two [] count (get_or answers range 0) (map change_word changes) rest first second ∙ whole) same refused

        all_put : (three : List ℕ) → three ≡ two ++ get_or answers range 0 ∷ [] → three ++ rest ≡ all
        all_put three third = list_put front one two three count (get_or answers range 0) (map change_word changes) rest first second third ∙ whole

pub returns-in_err-push-clause-stopped : goal.returns-in_err-push-clause-stopped
returns-in_err-push-clause-stopped g c =
    on_err c.from_residual.result (stops_count g.A.Address.padding (map g.A.Address.value c.args.starts.now) c.args.answers.now c.args.range c.args.count (g.S.Sink.put c.args.sink.now)
    (g.S.Sink.refuses c.push.new.self) (g.S.Sink.put c.push.new.self) c.in_err-push.ensures.refused.0 c.in_err-push.ensures.refused.1)

pub returns-in_err-put_starts-clause-stopped : goal.returns-in_err-put_starts-clause-stopped
returns-in_err-put_starts-clause-stopped g c =
    on_err c.from_residual-in_err-put_starts.result (stops_starts g.A.Address.padding (map g.A.Address.value c.args.starts.now) c.args.answers.now c.args.range c.args.count
    (g.S.Sink.put c.args.sink.now) (g.S.Sink.refuses c.put_starts.new.sink) (g.S.Sink.put c.put_starts.new.sink) (g.S.Sink.put c.push.new.self) c.in_ok-push.ensures.put
    c.in_err-put_starts.ensures.stopped)

pub returns-in_err-push-2-clause-stopped : goal.returns-in_err-push-2-clause-stopped
returns-in_err-push-2-clause-stopped g c =
    on_err c.from_residual-in_err-push-2.result (stops_value g.A.Address.padding (map g.A.Address.value c.args.starts.now) c.args.answers.now c.args.range c.args.count
    (g.S.Sink.put c.args.sink.now) (g.S.Sink.refuses c.push-2.new.self) (g.S.Sink.put c.push-2.new.self) (g.S.Sink.put c.push.new.self) c.in_ok-push.ensures.put
    (g.S.Sink.put c.put_starts.new.sink) c.in_ok-put_starts.ensures.put c.in_err-push-2.ensures.refused.0 c.in_err-push-2.ensures.refused.1)

pub returns-clause-put : goal.returns-clause-put
returns-clause-put g c =
    on_ok_weaker c.put_answers.result (λ put. put ∙ all_put g.A.Address.padding (map g.A.Address.value c.args.starts.now) c.args.answers.now c.args.range c.args.count
    (g.S.Sink.put c.args.sink.now) (g.S.Sink.refuses c.put_answers.new.sink) (g.S.Sink.put c.put_answers.new.sink) (g.S.Sink.put c.push.new.self) c.in_ok-push.ensures.put
    (g.S.Sink.put c.put_starts.new.sink) c.in_ok-put_starts.ensures.put (g.S.Sink.put c.push-2.new.self) c.in_ok-push-2.ensures.put) c.put_answers.ensures.put

pub returns-clause-stopped : goal.returns-clause-stopped
returns-clause-stopped g c =
    on_err_weaker c.put_answers.result (λ stopped. subst (λ x. StopsBefore (g.S.Sink.put c.put_answers.new.sink) (g.S.Sink.refuses c.put_answers.new.sink) x)
    (all_put g.A.Address.padding (map g.A.Address.value c.args.starts.now) c.args.answers.now c.args.range c.args.count
    (g.S.Sink.put c.args.sink.now) (g.S.Sink.refuses c.put_answers.new.sink) (g.S.Sink.put c.put_answers.new.sink) (g.S.Sink.put c.push.new.self) c.in_ok-push.ensures.put
    (g.S.Sink.put c.put_starts.new.sink) c.in_ok-put_starts.ensures.put (g.S.Sink.put c.push-2.new.self) c.in_ok-push-2.ensures.put) stopped) c.put_answers.ensures.stopped
