-- Differences of two tables, by the numbers of their values.
use Rattle.std.proofs.Common.{◌≡◌, ◌≢◌, ◌∙◌, ℕ, ◌-◌, ◌<◌, ◌≤◌, Bool, List, [], ◌∷◌, ◌++◌, length, get_or, map, Option, Some, None, option_map, refl, sym, ap, ap₂, subst, arith}
use Rattle.std.specs.List.{Contains}
use Rattle.std.specs.List.Sorted.{IsStrictlySortedBy}
use Rattle.std.specs.Map.{keys_of}
use Rattle.std.proofs.Common.{false, length-append}
use Rattle.std.proofs.Math.Seq.{take-append_seam}
use Rattle.std.proofs.lemmas.List.{get_or-map, get_or_default, length-map, length-replicate}
use Rattle.cidr.specs.model.Bits.{bit_cmp}
use Rattle.cidr.specs.model.Network.{BeginsWith, HasWidth, first_of, zeros}
use Rattle.cidr_table.specs.model.Prefixes.{IsLookedUp, IsValueLookedUp}
use Rattle.cidr_forwarding.specs.Differences.{AreAnswers, AreDifferences}
use Rattle.netset_commands.specs.Numbers.{AreAscending, number_in, numbered, value_in}
use Rattle.std.proofs.Common.{Global, Vec, Result, Ok, Err, IfOk}
use Rattle.std.specs.declared.alloc.AllocError.{AllocError}
use Rattle.netset_commands.specs.Compared.{AreFound, named, named_row}
use Rattle.cidr_forwarding.specs.Forwarding.{AreNetworksOf, in_bits}
use Rattle.netset_commands.proofs.Numbering.{number_back}

-- ---- what a map of a list contains
contains_map : {X Y : Type 0} (f : X → Y) (xs : List X) (x : X) → Contains xs x → Contains (map f xs) (f x)
contains_map f xs x m = (m.0, omega (arith, length-map xs f, m.1), get_or-map f xs m.0 x (f x) m.1 ∙ ap f m.2)

from_map : {X Y : Type 0} (f : X → Y) (xs : List X) (y : Y) → Contains (map f xs) y → (x : X) × Contains xs x × (y ≡ f x)
from_map f [] y m = absurd (omega (arith, m.1))
from_map f (x ∷ xs) y m =
    let within : m.0 < length (x ∷ xs) = omega (arith, length-map (x ∷ xs) f, m.1) in
    let it = get_or (x ∷ xs) m.0 x in
    (it, (m.0, within, get_or_default (x ∷ xs) m.0 it x within), sym m.2 ∙ get_or-map f (x ∷ xs) m.0 x y within)

module _ (values : List (List ℕ)) (up : AreAscending values) where
  abbrev row_number : List Bool × List ℕ → List Bool × ℕ
  row_number row = (row.0, number_in values row.1)

  -- ---- look-ups
  module _ (rows : List (List Bool × List ℕ)) (a : List Bool) where
    looked_there : (row : Option (List Bool × List ℕ)) → IsLookedUp (λ (p : List Bool). p) a rows row
        → IsLookedUp (λ (p : List Bool). p) a (numbered values rows) (option_map row_number row)
    looked_there None none = λ row m b.
        let (it, there, e) = from_map row_number rows row m in none it there (subst (λ (x : List Bool × ℕ). BeginsWith a x.0) e b)
    looked_there (Some row) l = record {
      here = contains_map row_number rows row l.here;
      begins = l.begins;
      longest = λ other m b.
          let (it, there, e) = from_map row_number rows other m in
          subst (λ (x : List Bool × ℕ). length x.0 ≤ length row.0) (sym e) (l.longest it there (subst (λ (x : List Bool × ℕ). BeginsWith a x.0) e b));
    }

    value_there : (value : Option (List ℕ)) → IsValueLookedUp (λ (p : List Bool). p) a rows value
        → IsValueLookedUp (λ (p : List Bool). p) a (numbered values rows) (option_map (number_in values) value)
    value_there value (None, l, e) = (None, looked_there None l, ap (option_map (number_in values)) e)
    value_there value (Some row, l, e) = (Some (row_number row), looked_there (Some row) l, ap (option_map (number_in values)) e)

    value_from : (number : Option ℕ) → IsValueLookedUp (λ (p : List Bool). p) a (numbered values rows) number
        → (value : Option (List ℕ)) × IsValueLookedUp (λ (p : List Bool). p) a rows value × (number ≡ option_map (number_in values) value)
    value_from number (None, none, e) = (None, (None, λ row m b. none (row_number row) (contains_map row_number rows row m) b, refl), e)
    value_from number (Some row, l, e) =
        let (it, there, is) = from_map row_number rows row l.here in (
          Some it.1,
          (
            Some it,
            record {
              here = there;
              begins = subst (λ (x : List Bool × ℕ). BeginsWith a x.0) is l.begins;
              longest = λ other m b. subst (λ (x : List Bool × ℕ). length other.0 ≤ length x.0) is (l.longest (row_number other) (contains_map row_number rows other m) b);
            },
            refl,
          ),
          e ∙ ap (λ (x : List Bool × ℕ). Some x.1) is,
        )

    module _ (has : (row : List Bool × List ℕ) → Contains rows row → Contains values row.1) where
      -- the value of the number of a value that was found is that value
      value_back : (value : Option (List ℕ)) → IsValueLookedUp (λ (p : List Bool). p) a rows value
          → option_map (value_in values) (option_map (number_in values) value) ≡ value
      value_back value (None, l, e) = ap (λ v. option_map (value_in values) (option_map (number_in values) v)) e ∙ sym e
      value_back value (Some row, l, e) =
          ap (λ v. option_map (value_in values) (option_map (number_in values) v)) e ∙ ap Some (number_back values row.1 up (has row l.here)) ∙ sym e

      -- and a number that was found is that of its value
      number_from : (number : Option ℕ) → IsValueLookedUp (λ (p : List Bool). p) a (numbered values rows) number
          → IsValueLookedUp (λ (p : List Bool). p) a rows (option_map (value_in values) number)
          × (option_map (number_in values) (option_map (value_in values) number) ≡ number)
      number_from number l =
          let (value, found, is) = value_from number l in
          let back : option_map (value_in values) number ≡ value = ap (option_map (value_in values)) is ∙ value_back value found in (
            subst (IsValueLookedUp (λ (p : List Bool). p) a rows) (sym back) found,
            ap (option_map (number_in values)) back ∙ sym is,
          )

  -- ---- answers of both tables
  module _ (these those : List (List Bool × List ℕ)) (has : (row : List Bool × List ℕ) → Contains these row → Contains values row.1)
      (has_too : (row : List Bool × List ℕ) → Contains those row → Contains values row.1) where
    abbrev numbers_of : Option (List ℕ) × Option (List ℕ) → Option ℕ × Option ℕ
    numbers_of answers = (option_map (number_in values) answers.0, option_map (number_in values) answers.1)

    answers_from : (a : List Bool) (answers : Option ℕ × Option ℕ) → AreAnswers (numbered values these) (numbered values those) a answers
        → AreAnswers these those a (named values answers) × (numbers_of (named values answers) ≡ answers)
    answers_from a answers (l, m) =
        let (first, is) = number_from these a has answers.0 l in
        let (second, is_too) = number_from those a has_too answers.1 m in
        ((first, second), ap₂ (λ (x y : Option ℕ). (x, y)) is is_too)

    answers_there : (a : List Bool) (answers : Option (List ℕ) × Option (List ℕ)) → AreAnswers these those a answers
        → AreAnswers (numbered values these) (numbered values those) a (numbers_of answers) × (named values (numbers_of answers) ≡ answers)
    answers_there a answers (l, m) = (
      (value_there these a answers.0 l, value_there those a answers.1 m),
      ap₂ (λ (x y : Option (List ℕ)). (x, y)) (value_back these a has answers.0 l) (value_back those a has_too answers.1 m),
    )

    keys_named : (listed : List (List Bool × (Option ℕ × Option ℕ))) → keys_of (map (named_row values) listed) ≡ keys_of listed
    keys_named [] = refl
    keys_named (row ∷ listed) = ap (λ keys. row.0 ∷ keys) (keys_named listed)

    module _ (IsAddress : List Bool → Type 0) (listed : List (List Bool × (Option ℕ × Option ℕ)))
        (d : AreDifferences (numbered values these) (numbered values those) IsAddress listed)
        (reach : (row : List Bool × (Option ℕ × Option ℕ)) → Contains listed row → (a : List Bool) × IsAddress a × BeginsWith a row.0) where
      -- the numbers are those of values
      are_numbers : (row : List Bool × (Option ℕ × Option ℕ)) → Contains listed row → numbers_of (named values row.1) ≡ row.1
      are_numbers row m = let (a, is, b) = reach row m in (answers_from a row.1 ((d.differ row m).1 a is b)).1

      -- the differences of the tables are those of their numbers
      pub same_differences : AreDifferences these those IsAddress (map (named_row values) listed)
      same_differences = record {
        ascending = subst (IsStrictlySortedBy bit_cmp) (sym (keys_named listed)) d.ascending;
        differ = λ row m.
            let (it, there, e) = from_map (named_row values) listed row m in
            let real = are_numbers it there in
            let told = d.differ it there in
            subst (λ (x : List Bool × (Option (List ℕ) × Option (List ℕ))).
            (x.1.0 ≢ x.1.1) × ((a : List Bool) → IsAddress a → BeginsWith a x.0 → AreAnswers these those a x.1)) (sym e) (
              λ same. told.0 (sym (ap (λ (n : Option ℕ × Option ℕ). n.0) real) ∙ ap (option_map (number_in values)) same ∙ ap (λ (n : Option ℕ × Option ℕ). n.1) real),
              λ a is b. (answers_from a it.1 (told.1 a is b)).0,
            );
        complete = λ a is answers found differ.
            let (there, back) = answers_there a answers found in
            let (network, b, m) = d.complete a is (numbers_of answers) there (λ same. differ
            (sym (ap (λ (v : Option (List ℕ) × Option (List ℕ)). v.0) back) ∙ ap (option_map (value_in values)) same ∙ ap (λ (v : Option (List ℕ) × Option (List ℕ)). v.1) back)) in
            (network, b, subst (λ v. Contains (map (named_row values) listed) (network, v)) back (contains_map (named_row values) listed (network, numbers_of answers) m));
        apart = λ a row other m n b c.
            let (it, there, e) = from_map (named_row values) listed row m in
            let (it_too, there_too, e_too) = from_map (named_row values) listed other n in
            e ∙ ap (named_row values) (d.apart a it it_too there there_too (subst (λ (x : List Bool × (Option (List ℕ) × Option (List ℕ))). BeginsWith a x.0) e b)
            (subst (λ (x : List Bool × (Option (List ℕ) × Option (List ℕ))). BeginsWith a x.0) e_too c)) ∙ sym e_too;
        largest = λ network b answers m all.
            let (it, there, e) = from_map (named_row values) listed (network ++ b ∷ [], answers) m in
            d.largest network b it.1 (subst (λ p. Contains listed (p, it.1)) (sym (ap (λ (x : List Bool × (Option (List ℕ) × Option (List ℕ))). x.0) e)) there) (λ a is begins.
            let found : AreAnswers these those a (named values it.1) =
            subst (AreAnswers these those a) (ap (λ (x : List Bool × (Option (List ℕ) × Option (List ℕ))). x.1) e) (all a is begins) in
            subst (AreAnswers (numbered values these) (numbered values those) a) (are_numbers it there) (answers_there a (named values it.1) found).0);
      }

-- an address of the network
pub some_address : (w : ℕ) (p : List Bool) → length p ≤ w → (a : List Bool) × HasWidth w a × BeginsWith a p
some_address w p fits = (first_of w p, omega (arith, length-append p (zeros (w - length p)), length-replicate (w - length p) false), take-append_seam p (zeros (w - length p)))

-- ---- rows of lists of bits
in_bits_self : {X : Type 0} (rows : List (List Bool × X)) → in_bits (λ (p : List Bool). p) rows ≡ rows
in_bits_self [] = refl
in_bits_self (row ∷ rows) = ap (λ more. row ∷ more) (in_bits_self rows)

-- the differences of the tables of a family
pub family_differences : (values : List (List ℕ)) → AreAscending values → (these those : List (List Bool × List ℕ)) (listed : List (List Bool × (Option ℕ × Option ℕ)))
    → ((row : List Bool × List ℕ) → Contains these row → Contains values row.1) → ((row : List Bool × List ℕ) → Contains those row → Contains values row.1)
    → (w : ℕ) → AreFound (λ (p : List Bool). p) w values these those listed → AreDifferences these those (HasWidth w) (map (named_row values) listed)
family_differences values up these those listed has has_too w (d, fits) =
    let e = in_bits_self (numbered values these) in
    let e_too = in_bits_self (numbered values those) in
    let same : AreDifferences (numbered values these) (numbered values those) (HasWidth w) listed =
    subst (λ l. AreDifferences (numbered values these) (numbered values those) (HasWidth w) l) (in_bits_self listed)
    (subst (λ l. AreDifferences (numbered values these) l (HasWidth w) (in_bits (λ (p : List Bool). p) listed)) e_too
    (subst (λ l. AreDifferences l (in_bits (λ (p : List Bool). p) (numbered values those)) (HasWidth w) (in_bits (λ (p : List Bool). p) listed)) e d)) in
    same_differences values up these those has has_too (HasWidth w) listed same (λ row m. some_address w row.0 (fits row m))

-- ---- what is found
-- from what `differences` says of the tables of numbers
pub are_found : {C : Type 0} (bits : C → List Bool) (w : ℕ) (values : List (List ℕ)) (these those : List (C × List ℕ)) (one other : List (C × ℕ))
    (r : Result (Vec (C × (Option ℕ × Option ℕ)) Global) AllocError) → w ≤ 129 → AreNetworksOf bits w one → AreNetworksOf bits w other
    → one ≡ numbered values these → other ≡ numbered values those
    → IfOk r (λ listed. (w : ℕ) → w ≤ 129 → AreNetworksOf bits w one → AreNetworksOf bits w other
    → AreDifferences (in_bits bits one) (in_bits bits other) (HasWidth w) (in_bits bits listed.items))
    → IfOk r (λ listed. (w : ℕ) → AreNetworksOf bits w one → AreNetworksOf bits w other → AreNetworksOf bits w listed.items)
    → IfOk r (λ listed. AreFound bits w values these those listed.items)
are_found bits w values these those one other (Err e) most fit fit_too is is_too width kept = tt
are_found bits w values these those one other (Ok listed) most fit fit_too is is_too width kept = (
  subst (λ l. AreDifferences (in_bits bits (numbered values these)) (in_bits bits l) (HasWidth w) (in_bits bits listed.items)) is_too
      (subst (λ l. AreDifferences (in_bits bits l) (in_bits bits other) (HasWidth w) (in_bits bits listed.items)) is (width w most fit fit_too)),
  kept w fit fit_too,
)
