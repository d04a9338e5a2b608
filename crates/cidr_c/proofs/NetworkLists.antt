-- Sets and lists of networks as C has them.
use Rattle.std.proofs.Common.{◌≡◌, ℕ, ◌+◌, ◌<◌, ◌≤◌, Bool, List, [], ◌∷◌, ◌++◌, length, map, drop, take, get_or, Result, Ok, Err, inl, inr, refl, sym, ap, ◌∙◌, arith, suc, zero}
use Rattle.std.specs.Prelude.{All, IfOk}
use Rattle.std.proofs.lemmas.List.{take_more, map-append, length-map}
use Rattle.std.proofs.lemmas.Simd.{map-map}
use Rattle.std.proofs.lemmas.List.Elements.{All-append}
use Rattle.cidr.specs.either.IpNetwork.{any_bits}
use Rattle.cidr.specs.declared.cidr.any.AnyIpCidr.{AnyIpCidr}
use Rattle.cidr_table.specs.model.Cover.{Covers}
use Rattle.cidr_sets.specs.model.Sets.{IsSetOf}
use Rattle.cidr_c.specs.calls.Batches.{AreNetworkValues, bits_in, IsLeft, IsPutInRoom, IsDelivered}
use Rattle.cidr_c.specs.model.Values.{network_in}
use Rattle.cidr_c.specs.declared.values.CValue.{CValue}

only_one : {A : Type 0} (Holds : A → Type 0) (a : A) → Holds a → All Holds (a ∷ [])
only_one Holds a h zero d lt = h
only_one Holds a h (suc k) d lt = absurd (omega (arith, lt))

-- one value more
pub item_more : {A B : Type 0} (Holds : A → Type 0) (made : A → B) (xs : List A) (i : ℕ) (d : A) (ys : List B) → i < length xs
    → All Holds (take i xs) → ys ≡ map made (take i xs) → Holds (get_or xs i d)
    → All Holds (take (i + 1) xs) × (ys ++ made (get_or xs i d) ∷ [] ≡ map made (take (i + 1) xs))
item_more Holds made xs i d ys h fine same here =
    let e = take_more xs i d h in (
      rw e (All-append Holds (take i xs) (get_or xs i d ∷ []) fine (only_one Holds (get_or xs i d) here)),
      rw (e, map-append made (take i xs) (get_or xs i d ∷ []), same) refl,
    )

-- the bits of networks are those of the values that they were made of
pub bits_of : (vs : List CValue) (ns : List AnyIpCidr) → ns ≡ map network_in vs → map any_bits ns ≡ bits_in vs
bits_of vs ns e = ap (map any_bits) e ∙ map-map any_bits network_in vs

pub set_read : (vs : List CValue) (ns set : List AnyIpCidr) → AreNetworkValues vs → ns ≡ map network_in vs
    → IsSetOf 129 (Covers (map any_bits ns)) (map any_bits set) → length set ≤ length ns
    → AreNetworkValues vs × IsSetOf 129 (Covers (bits_in vs)) (map any_bits set) × (length set ≤ length vs)
set_read vs ns set fine e is_set fits = (fine, rw (← bits_of vs ns e) is_set, rw (← (ap length e ∙ length-map vs network_in)) fits)

-- what is put is what the set has
pub left : (old new : List CValue) (set shown : List AnyIpCidr) (count n : ℕ) → shown ≡ set → n ≡ length set
    → AreNetworkValues old × IsSetOf 129 (Covers (bits_in old)) (map any_bits set) × (length set ≤ length old)
    → AreNetworkValues (take (length shown) new) → map network_in (take (length shown) new) ≡ shown
    → drop (length shown) new ≡ drop (length shown) old → IsLeft (IsSetOf 129 (Covers (bits_in old))) old new count n 0
left old new set shown count n same is read fine put behind = record {
  networks = λ _. read.0;
  fits = λ _. rw is read.2;
  left = λ _. rw (is, ← same) fine;
  holds = λ _. rw (is, ← same, ← bits_of (take (length shown) new) shown (sym put), same) read.1;
  behind = λ _. rw (is, ← same) behind;
  value = λ z. absurd (omega (arith, z));
  codes = inl refl;
  stays = λ other. absurd (other refl);
}

-- ---- sets in the caller's room
pub if_ok : {E : Type 0} (P Q : List (List Bool) → Type 0) (r : Result (List AnyIpCidr) E)
    → ((set : List (List Bool)) → P set → Q set)
    → IfOk r (λ set. P (map any_bits set)) → IfOk r (λ set. Q (map any_bits set))
if_ok P Q (Ok x) more h = more (map any_bits x) h
if_ok P Q (Err e) more h = h

-- a set that holds
pub delivered : {E : Type 0} (IsTaken : Type 0) (Holds : List (List Bool) → Type 0) (r : Result (List AnyIpCidr) E)
    (old new : List CValue) (count n code : ℕ) → IsTaken
    → IfOk r (λ set. Holds (map any_bits set)) → IsDelivered r old new count n code
    → IsPutInRoom IsTaken Holds old new count n code
delivered IsTaken Holds (Ok set) old new count n code fine holds (inl done) = record {
  taken = λ _. fine;
  fits = λ _. rw done.1 done.2;
  left = λ _. done.3;
  holds = λ _. rw (← bits_of (take n new) set (sym done.4)) holds;
  behind = λ _. done.5;
  value = λ z. absurd (omega (arith, z, done.0));
  room = λ z. absurd (omega (arith, z, done.0));
  asked = λ _. fine;
  codes = inl done.0;
  stays = λ other. absurd (other done.0);
  count_stays = λ other _. absurd (other done.0);
}
delivered IsTaken Holds (Ok set) old new count n code fine holds (inr short) = record {
  taken = λ z. absurd (omega (arith, z, short.0));
  fits = λ z. absurd (omega (arith, z, short.0));
  left = λ z. absurd (omega (arith, z, short.0));
  holds = λ z. absurd (omega (arith, z, short.0));
  behind = λ z. absurd (omega (arith, z, short.0));
  value = λ z. absurd (omega (arith, z, short.0));
  room = λ _. (rw short.1 short.2, map any_bits set, holds, short.1 ∙ sym (length-map set any_bits));
  asked = λ _. fine;
  codes = inr (inr (inl short.0));
  stays = λ _. short.3;
  count_stays = λ _ other. absurd (other short.0);
}
delivered IsTaken Holds (Err e) old new count n code fine holds none = record {
  taken = λ z. absurd (omega (arith, z, none.0));
  fits = λ z. absurd (omega (arith, z, none.0));
  left = λ z. absurd (omega (arith, z, none.0));
  holds = λ z. absurd (omega (arith, z, none.0));
  behind = λ z. absurd (omega (arith, z, none.0));
  value = λ z. absurd (omega (arith, z, none.0));
  room = λ z. absurd (omega (arith, z, none.0));
  asked = λ _. fine;
  codes = inr (inr (inr none.0));
  stays = λ _. none.1;
  count_stays = λ _ _. none.2;
}
