-- A value that is its own view, and results by their views.
use Rattle.std.proofs.Common.{◌≡◌, Option, Some, None, Result, Ok, Err, IfOk, IfSome, option_map, refl, ap}
use Rattle.cidr.specs.model.Views.{seen}

pub seen-itself : {V E : Type 0} (r : Result V E) → seen (λ x. x) r ≡ r
seen-itself (Ok x) = refl
seen-itself (Err e) = refl

-- a view that tells the values tells the results too
pub seen_injective : {V W E : Type 0} (view : V → W) → ((x y : V) → view x ≡ view y → x ≡ y) → (r s : Result V E) → seen view r ≡ seen view s → r ≡ s
seen_injective view tells (Ok x) (Ok y) h = ap Ok (tells x y (cc))
seen_injective view tells (Ok x) (Err e) h = absurd (cc)
seen_injective view tells (Err d) (Ok y) h = absurd (cc)
seen_injective view tells (Err d) (Err e) h = cc

pub option_map-itself : {V : Type 0} (o : Option V) → option_map (λ x. x) o ≡ o
option_map-itself (Some x) = refl
option_map-itself None = refl

pub of_each_ok : {V E X : Type 0} (x : X) (r : Result V E) → IfOk r (λ _. x ≡ x)
of_each_ok x (Ok y) = refl
of_each_ok x (Err e) = tt

pub of_each_some : {V X : Type 0} (x : X) (o : Option V) → IfSome o (λ _. x ≡ x)
of_each_some x (Some y) = refl
of_each_some x None = tt

pub ruleset view_laws = (seen-itself, option_map-itself, of_each_ok, of_each_some)
