use Rattle.std.proofs.Common.{◌≡◌, ℕ, List, inl, inr, sym, false}
use Rattle.std.proofs.lemmas.Bool.{cases_Bool}
use Rattle.std.proofs.lemmas.Str.{IsUtf8-from_is_utf8, is_utf8-from_IsUtf8}
use Rattle.std.specs.Str.{IsUtf8, is_utf8}
use Rattle.cidr_mmdb.proofs.leaf_texts.is_utf8.Goals as goal

not_text : (p : List ℕ) → (IsUtf8 p → ⊥) → is_utf8 p ≡ false
not_text p n = elim (cases_Bool (is_utf8 p)) [ inl t ↦ absurd (n (IsUtf8-from_is_utf8 p t)) | inr f ↦ f ]

pub returns-in-Ok : goal.returns-in-Ok
returns-in-Ok c = sym (is_utf8-from_IsUtf8 c.args.bytes.now c.in-Ok.ensures.cases.1)

pub returns-in-Err : goal.returns-in-Err
returns-in-Err c = sym (not_text c.args.bytes.now c.in-Err.ensures.cases.0)
