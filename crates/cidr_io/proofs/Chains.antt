use Rattle.std.proofs.Common.{◌≡◌, refl, sym, ◌∙◌, ap, subst, ℕ, List, [], ◌++◌, take, drop, true, false, append_assoc, Option, Some, None, Result, Ok, Err}
use Rattle.std.proofs.lemmas.List.{append-nil, take-append-drop}
use Rattle.std.specs.Io.KnownBytes.{Keeps, Appends}
use Rattle.cidr_io.specs.declared.sink.OutputFailed.{OutputFailed}
use Rattle.cidr_io.specs.Writing.{State, Takes, Whole, Part, Writes, Answered}

-- known bytes grow by one list and then by another
pub appends_twice : (a b c : Option (List ℕ)) (xs ys : List ℕ) → Appends a b xs → Appends b c ys → Appends a c (xs ++ ys)
appends_twice None b c xs ys p q = tt
appends_twice (Some ks) None c xs ys p q = absurd p
appends_twice (Some ks) (Some bs) None xs ys p q = absurd q
appends_twice (Some ks) (Some bs) (Some cs) xs ys p q = q ∙ (ap (λ k. k ++ ys) p ∙ append_assoc ks xs ys)

pub appends_none : (a b : Option (List ℕ)) → Keeps a b → Appends a b []
appends_none None b p = tt
appends_none (Some ks) None p = absurd p
appends_none (Some ks) (Some bs) p = p ∙ sym (append-nil ks)

pub appends_same : (a : Option (List ℕ)) → Appends a a []
appends_same None = tt
appends_same (Some ks) = sym (append-nil ks)

-- nothing yet
pub whole_none : (a : State) → Whole a a []
whole_none a = record { taken = appends_same a.taken; fine = refl }

pub whole_whole : (a b c : State) (xs ys : List ℕ) → Whole a b xs → Whole b c ys → Whole a c (xs ++ ys)
whole_whole a b c xs ys p q = record { taken = appends_twice a.taken b.taken c.taken xs ys p.taken q.taken; fine = q.fine ∙ p.fine }

pub whole_part : (a b c : State) (xs ys : List ℕ) → Whole a b xs → Part b c ys → Part a c (xs ++ ys)
whole_part a b c xs ys p q = record {
  front = xs ++ q.front;
  rest = q.rest;
  beginning = ap (λ k. xs ++ k) q.beginning ∙ sym (append_assoc xs q.front q.rest);
  taken = appends_twice a.taken b.taken c.taken xs q.front p.taken q.taken;
  failed = q.failed;
}

pub part_more : (a b : State) (xs ys : List ℕ) → Part a b xs → Part a b (xs ++ ys)
part_more a b xs ys p = record {
  front = p.front;
  rest = p.rest ++ ys;
  beginning = ap (λ k. k ++ ys) p.beginning ∙ append_assoc p.front p.rest ys;
  taken = p.taken;
  failed = p.failed;
}

-- a text that was written, and then the next
pub then_writes : (a b c : State) (xs ys : List ℕ) (r : Result (Unit {0}) OutputFailed) → Whole a b xs → Writes b c ys r → Writes a c (xs ++ ys) r
then_writes a b c xs ys (Ok u) p q = whole_whole a b c xs ys p q
then_writes a b c xs ys (Err e) p q = whole_part a b c xs ys p q

-- an offer of what is left
pub offered : (a b c : State) (text front rest : List ℕ) (n : ℕ) → text ≡ front ++ rest → Whole a b front → Takes b c rest (Some n)
    → (text ≡ (front ++ take n rest) ++ drop n rest) × Whole a c (front ++ take n rest)
offered a b c text front rest n e p t = (
  e ∙ (ap (λ k. front ++ k) (sym (take-append-drop n rest)) ∙ sym (append_assoc front (take n rest) (drop n rest))),
  whole_whole a b c front (take n rest) p (record { taken = t.0; fine = t.1 }),
)

pub refused : (a b c : State) (text front rest : List ℕ) → text ≡ front ++ rest → Whole a b front → Takes b c rest None → Part a c text
refused a b c text front rest e p t = record {
  front = front;
  rest = rest;
  beginning = e;
  taken = subst (λ (k : List ℕ). Appends a.taken c.taken k) (append-nil front) (appends_twice a.taken b.taken c.taken front [] p.taken (appends_none b.taken c.taken t.0));
  failed = t.1;
}

-- a text that was taken, and then nothing more
pub then_flushed : (a b c : State) (text : List ℕ) (r : Result (Unit {0}) OutputFailed) → Whole a b text → Writes b c [] r → Writes a c text r
then_flushed a b c text r p q = subst (λ (k : List ℕ). Writes a c k r) (append-nil text) (then_writes a b c text [] r p q)

-- nothing was taken by a sink that had failed before
pub part_none : (a : State) (text : List ℕ) → a.failed ≡ true → Part a a text
part_none a text h = record { front = []; rest = text; beginning = refl; taken = appends_same a.taken; failed = h }

-- what was written to a sink that had not failed
pub answered : (a b : State) (text : List ℕ) (r : Result (Unit {0}) OutputFailed) → a.failed ≡ false → Writes a b text r → Answered a b text r
answered a b text (Ok u) fine h = (h, h.fine ∙ fine)
answered a b text (Err e) fine h = (h, λ failed. let bad : false ≡ true = sym fine ∙ failed in cc)
