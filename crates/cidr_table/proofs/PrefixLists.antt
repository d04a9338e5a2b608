-- A list of prefixes, read one after the other.
use Rattle.std.proofs.Common.{◌≡◌, ℕ, ◌-◌, ◌<◌, ◌≤◌, Bool, List, [], ◌∷◌, ◌++◌, length, take, drop, Ok, refl, sym, ap, ◌∙◌, arith, take-append-drop, take_all, length-take, length-drop}
use Rattle.cidr.specs.bytes.Prefix.{HasPrefix, ReadsPrefix}
use Rattle.cidr_table.specs.model.Loading.{IsListed, IsLoadRefused}
use Rattle.cidr_table.specs.declared.table.load.LoadError.TheVariants.{NoMemory}

-- ---- what is read from the front, and what is behind it
module _ {C : Type 0} (bits : C → List Bool) (w : ℕ) (input : List ℕ) (key : C) (used : ℕ) (reads : ReadsPrefix w input (Ok (bits key, used))) where
  abbrev has : HasPrefix w input (bits key) used
  has = (reads.exactly (bits key) used).0 refl

  pub used_within : used ≤ length input
  used_within = omega (arith, has.1.0, sym (ap length has.1.1), length-take used input)

  abbrev pub behind : List ℕ
  behind = take (length input - used) (drop used input)

  whole : behind ≡ drop used input
  whole = take_all (length input - used) (drop used input) (omega (arith, length-drop used input))

  pub shorter : length behind < length input
  shorter = omega (arith, used_within, has.1.0, ap length has.2.parts, ap length whole, length-drop used input)

  -- the list has one prefix more
  pub one_more : (keys : List C) (all : List ℕ) → IsListed bits w keys input all → IsListed bits w (keys ++ key ∷ []) behind all
  one_more [] all h = (has.0, behind, h ∙ sym (take-append-drop used input) ∙ ap (λ t. t ++ drop used input) has.1.1 ∙ ap (λ t. has.0 ++ t) (sym whole), has.2, refl)
  one_more (k ∷ keys) all (bytes, later, e, s, rest) = (bytes, later, e, s, one_more keys later rest)

-- the first prefix of a list
pub begun : {C : Type 0} (bits : C → List Bool) (w : ℕ) (keys : List C) (key : C) (rest all : List ℕ) → IsListed bits w (keys ++ key ∷ []) rest all → IsLoadRefused bits w all NoMemory
begun bits w [] key rest all (bytes, later, e, s, _) = (key, later, (bytes, later, e, s, refl))
begun bits w (k ∷ keys) key rest all (bytes, later, e, s, _) = (k, later, (bytes, later, e, s, refl))
