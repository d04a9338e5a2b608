-- Asked values that are answered one after another.
use Rattle.std.proofs.Common.{◌≡◌, ◌≢◌, ℕ, ◌+◌, ◌<◌, ◌≤◌, List, drop, length, get_or, set, slice_get, Some, map, inl, inr, refl, sym, ap, ◌∙◌, arith, subst}
use Rattle.std.proofs.lemmas.Bool.{cases_eq, cases_lt}
use Rattle.std.proofs.lemmas.List.{length-set, get_or-set_same, get_or-set_other}
use Rattle.std.proofs.lemmas.Option.{get_or_from_slice_get, slice_get_within, slice_get_past, slice_get-get_or}
use Rattle.cidr.specs.either.IpNetwork.{any_bits}
use Rattle.cidr.specs.declared.cidr.any.AnyIpCidr.{AnyIpCidr}
use Rattle.cidr_table.specs.model.Cover.{Covers, IsFull}
use Rattle.cidr_sets.specs.model.Sets.{IsSetOf}
use Rattle.cidr_c.specs.calls.Calls.{IsYesOrNo}
use Rattle.cidr_c.specs.calls.Batches.{AreNetworkValues, bits_in}
use Rattle.cidr_c.specs.model.Files.{AreAnsweredIn}
use Rattle.cidr_c.specs.calls.Lookups.{AreAnswered, AreContained}
use Rattle.cidr_c.specs.model.Values.{IsNetworkValue, network_in}
use Rattle.cidr_c.specs.declared.values.CValue.{CValue}

-- the first n are answered
abbrev pub AreFirst : (AnyIpCidr → ℕ → Type 0) → ℕ → List CValue → List ℕ → Type 0
AreFirst Answers n asked out =
    (i : ℕ) (v : CValue) → i < n → slice_get asked i ≡ Some v
    → IsNetworkValue v × (answer : ℕ) × (slice_get out i ≡ Some answer) × Answers (network_in v) answer

pub slice_get-set_here : {A : Type 0} (out : List A) (n : ℕ) (a : A) → n < length out → slice_get (set out n a) n ≡ Some a
slice_get-set_here out n a h =
    slice_get-get_or (set out n a) n a (omega (arith, length-set out n a, h)) ∙ ap Some (get_or-set_same out n a a h)

pub slice_get-set_other : {A : Type 0} (out : List A) (n i : ℕ) (a : A) → i ≢ n → slice_get (set out n a) i ≡ slice_get out i
slice_get-set_other out n i a other =
    let size = length-set out n a in
    elim (cases_lt i (length out)) [
      | inl lt ↦
          slice_get-get_or (set out n a) i a (omega (arith, size, lt)) ∙ (ap Some (get_or-set_other out n i a a other)
          ∙ sym (slice_get-get_or out i a lt))
      | inr past ↦ slice_get_past (set out n a) i (omega (arith, size, past)) ∙ sym (slice_get_past out i past)
    ]

-- the first n have their answers
abbrev pub AreFirstAnswered : {A : Type 0} → (CValue → A → Type 0) → ℕ → List CValue → List A → Type 0
AreFirstAnswered {A} Answers n asked out =
    (i : ℕ) (v : CValue) → i < n → slice_get asked i ≡ Some v → (answer : A) × (slice_get out i ≡ Some answer) × Answers v answer

-- one answer more
pub one_answered : {A : Type 0} (Answers : CValue → A → Type 0) (n : ℕ) (d : CValue) (asked : List CValue) (out : List A) (a : A)
    → AreFirstAnswered Answers n asked out → n < length out → Answers (get_or asked n d) a → AreFirstAnswered Answers (n + 1) asked (set out n a)
one_answered Answers n d asked out a first fits here i v lt found =
    elim (cases_eq i n) [
      | inl e ↦
          let same : get_or asked n d ≡ v = ap (λ (k : ℕ). get_or asked k d) (sym e) ∙ get_or_from_slice_get asked i v d found in
          (a, ap (slice_get (set out n a)) e ∙ slice_get-set_here out n a fits, subst (λ (w : CValue). Answers w a) same here)
      | inr other ↦
          let old = first i v (omega (arith, lt, other)) found in
          (old.0, slice_get-set_other out n i a other ∙ old.1, old.2)
    ]

-- all have
pub all_answered : {A : Type 0} (Answers : CValue → A → Type 0) (n : ℕ) (asked : List CValue) (old out : List A) → length asked ≤ n
    → AreFirstAnswered Answers n asked out → drop (length asked) out ≡ drop (length asked) old → AreAnsweredIn Answers asked old out 0
all_answered Answers n asked old out past first behind = record {
  answers = λ _ i v found. first i v (omega (arith, past, slice_get_within asked i v found)) found;
  behind = behind;
  room = λ z. absurd (omega (arith, z));
  codes = inl refl;
}

pub one_more : (Answers : AnyIpCidr → ℕ → Type 0) (n : ℕ) (d : CValue) (asked : List CValue) (out : List ℕ) (a : ℕ)
    → AreFirst Answers n asked out → n < length out → IsNetworkValue (get_or asked n d) → Answers (network_in (get_or asked n d)) a
    → AreFirst Answers (n + 1) asked (set out n a)
one_more Answers n d asked out a first fits here answers i v lt found =
    elim (cases_eq i n) [
      | inl e ↦
          let same : get_or asked n d ≡ v = ap (λ (k : ℕ). get_or asked k d) (sym e) ∙ get_or_from_slice_get asked i v d found in
          (subst IsNetworkValue same here, a, ap (slice_get (set out n a)) e ∙ slice_get-set_here out n a fits, subst (λ (w : CValue). Answers (network_in w) a) same answers)
      | inr other ↦
          let old = first i v (omega (arith, lt, other)) found in
          (old.0, old.1, slice_get-set_other out n i a other ∙ old.2, old.3)
    ]

pub all : (Answers : AnyIpCidr → ℕ → Type 0) (n : ℕ) (asked : List CValue) (out : List ℕ) → length asked ≤ n → AreFirst Answers n asked out
    → AreAnswered Answers asked out
all Answers n asked out past first i v found = first i v (omega (arith, past, slice_get_within asked i v found)) found

pub contained : (values asked : List CValue) (set : List AnyIpCidr) (old out : List ℕ) (n : ℕ) → AreNetworkValues values
    → IsSetOf 129 (Covers (bits_in values)) (map any_bits set) → length asked ≤ n
    → AreFirst (λ n answer. IsYesOrNo answer (IsFull 129 (map any_bits set) (any_bits n))) n asked out
    → drop (length asked) out ≡ drop (length asked) old → AreContained values asked old out 0
contained values asked set old out n fine is_set past first behind = record {
  networks = λ _. fine;
  answers = λ _. all (λ n answer. IsYesOrNo answer (IsFull 129 (bits_in values) (any_bits n))) n asked out past
      (λ i v lt found.
      let old = first i v lt found in (
        old.0,
        old.1,
        old.2,
        (
          old.3.0,
          (
            λ one a l begins. (is_set.exact a l).0 (old.3.1.0 one a l begins),
            λ full. old.3.1.1 (λ a l begins. (is_set.exact a l).1 (full a l begins)),
          ),
        ),
      ));
  value = λ z. absurd (omega (arith, z));
  room = λ z. absurd (omega (arith, z));
  codes = inl refl;
  behind = behind;
  stays = λ h. elim h [ inl z ↦ absurd (omega (arith, z)) | inr z ↦ absurd (omega (arith, z)) ];
  refused = λ none. absurd (none fine);
}
