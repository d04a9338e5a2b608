-- What the parts of a text with a slash give.
use Rattle.std.proofs.Common.{◌≡◌, ℕ, List, Result, Ok, Err, IfOk, refl, ap, subst, inl, inr}
use Rattle.cidr.specs.model.Views.{seen, in_family}
use Rattle.cidr.specs.texts.Parsing.{ReadsSlashed, ReadsCut}
use Rattle.cidr.specs.internal.Reading.{AreParts}
use Rattle.cidr.specs.model.Errors.{AddressError}
use Rattle.cidr.specs.declared.errors.NetworkParseError.{NetworkParseError}
use Rattle.cidr.specs.declared.errors.NetworkParseError.TheVariants as parse_error
use Rattle.cidr.specs.declared.family.Family.{Family}

-- ---- what is made of both parts
module _ {A : Type 0} (parts : Result (A × ℕ) NetworkParseError) where
  same_error : {R : Type 0} (e f : NetworkParseError) → parts ≡ Err e → parts ≡ Err f → ◌≡◌ {A = Result R NetworkParseError} (Err e) (Err f)
  same_error e f h k = cc

  same_parts : (p q : A × ℕ) → parts ≡ Ok p → parts ≡ Ok q → p ≡ q
  same_parts p q h k = cc

  not_both : {X : Type 0} (e : NetworkParseError) (p : A × ℕ) → parts ≡ Err e → parts ≡ Ok p → X
  not_both e p h k = absurd (cc)

  module _ {R : Type 0} (Makes : A → ℕ → Result R NetworkParseError → Type 0) where
    refused_follows : (returned : Result A AddressError) (back : List ℕ) (e : NetworkParseError) → parts ≡ Err e → ReadsSlashed AreParts returned back parts
        → ReadsSlashed Makes returned back (Err e)
    refused_follows (Err x) back e is h = same_error e (parse_error.AddrParseError x) is h
    refused_follows (Ok a) back e is (inl (n, l, h)) = not_both e (a, n) is h
    refused_follows (Ok a) back e is (inr (none, h)) = inr (none, same_error e (parse_error.NetworkLengthParseError (record {})) is h)

    made_follows : (returned : Result A AddressError) (back : List ℕ) (p : A × ℕ) (r : Result R NetworkParseError) → parts ≡ Ok p → Makes p.0 p.1 r
        → ReadsSlashed AreParts returned back parts → ReadsSlashed Makes returned back r
    made_follows (Err x) back p r is made h = not_both (parse_error.AddrParseError x) p h is
    made_follows (Ok b) back p r is made (inl (m, l, h)) = inl (m, l, subst (λ q. Makes q.0 q.1 r) (same_parts p (b, m) is h) made)
    made_follows (Ok b) back p r is made (inr (none, h)) = not_both (parse_error.NetworkLengthParseError (record {})) p h is

  module _ {Asked : List ℕ → Result A AddressError → Type 0} (text : List ℕ) (h : ReadsCut Asked AreParts text parts) where
    pub cut_refused : {R : Type 0} (Makes : A → ℕ → Result R NetworkParseError → Type 0) (e : NetworkParseError) → parts ≡ Err e → ReadsCut Asked Makes text (Err e)
    cut_refused Makes e is = record {
      front = h.front;
      back = h.back;
      returned = h.returned;
      cut = h.cut;
      asked = h.asked;
      follows = refused_follows Makes h.returned h.back e is h.follows;
    }

    pub cut_made : {R : Type 0} (Makes : A → ℕ → Result R NetworkParseError → Type 0) (p : A × ℕ) (r : Result R NetworkParseError)
        → parts ≡ Ok p → Makes p.0 p.1 r → ReadsCut Asked Makes text r
    cut_made Makes p r is made = record {
      front = h.front;
      back = h.back;
      returned = h.returned;
      cut = h.cut;
      asked = h.asked;
      follows = made_follows Makes h.returned h.back p r is made h.follows;
    }

-- the part was asked for in another way too
pub asked_as : {A R : Type 0} {Asked Known : List ℕ → Result A AddressError → Type 0} {Makes : A → ℕ → Result R NetworkParseError → Type 0}
    {text : List ℕ} {r : Result R NetworkParseError}
    → ((front : List ℕ) (returned : Result A AddressError) → Asked front returned → Known front returned) → ReadsCut Asked Makes text r → ReadsCut Known Makes text r
asked_as known h = record {
  front = h.front;
  back = h.back;
  returned = h.returned;
  cut = h.cut;
  asked = known h.front h.returned h.asked;
  follows = h.follows;
}

-- ---- a value and its family
pub seen_in_family : {N V E : Type 0} (family : N → Family) (view : N → V) (f : Family) (r : Result N E) (v : Result V E) → seen view r ≡ v → IfOk r (λ n. family n ≡ f)
    → seen (in_family family view) r ≡ seen (λ p. (f, p)) v
seen_in_family family view f (Ok x) v h k = rw (← h) (ap (λ g. Ok (g, view x)) k)
seen_in_family family view f (Err e) v h k = rw (← h) refl
