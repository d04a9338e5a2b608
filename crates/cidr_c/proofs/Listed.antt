-- Lists in the caller's room, and the ranges of sets.
use Rattle.std.proofs.Common.{◌≡◌, ℕ, Bool, List, [], ◌∷◌, ◌++◌, drop, map, take, inl, inr, arith, ap, ap₂, ◌∙◌, sym, subst}
use Rattle.std.specs.Prelude.{All}
use Rattle.std.proofs.lemmas.List.{length-map, map-append}
use Rattle.std.proofs.lemmas.List.Elements.{All-push}
use Rattle.cidr.specs.either.IpAddress.{ip_address_bits}
use Rattle.cidr.specs.declared.addr.ip.IpAddr.{IpAddr}
use Rattle.cidr_table.specs.model.Cover.{Covers}
use Rattle.cidr_sets.specs.model.Ranges.{AreRanges}
use Rattle.cidr_sets.specs.model.Sets.{IsSetOf}
use Rattle.cidr_sets.specs.declared.ranges.AddressRange.{AddressRange}
use Rattle.cidr_c.specs.calls.Batches.{IsListInRoom, IsListPut}
use Rattle.cidr_c.specs.model.Addresses.{IsRangeValue, range_in}
use Rattle.cidr_c.specs.declared.ranges.CRange.{CRange}

pub listed : {P A : Type 0} (IsTaken : Type 0) (IsValue : P → Type 0) (value_in : P → A) (Holds : List A → Type 0) (list old new : List P)
    (count made code : ℕ) → IsTaken → All IsValue list → Holds (map value_in list) → IsListPut list old new made code
    → IsListInRoom IsTaken IsValue value_in Holds old new count made code
listed {P} IsTaken IsValue value_in Holds list old new count made code fine values holds (is, inl done) =
    let there : take made new ≡ list = ap (λ (k : ℕ). take k new) is ∙ done.2 in
    record {
      taken = λ _. fine;
      fits = λ _. omega (arith, is, done.1);
      left = λ _. subst (λ (l : List P). All IsValue l) (sym there) values;
      holds = λ _. subst (λ (l : List P). Holds (map value_in l)) (sym there) holds;
      value = λ z. absurd (omega (arith, z, done.0));
      behind = λ _. subst (λ (k : ℕ). drop k new ≡ drop k old) (sym is) done.3;
      room = λ z. absurd (omega (arith, z, done.0));
      asked = λ _. fine;
      codes = inl done.0;
      stays = λ other. absurd (other done.0);
      count_stays = λ other _. absurd (other done.0);
    }
listed IsTaken IsValue value_in Holds list old new count made code fine values holds (is, inr short) =
    record {
      taken = λ z. absurd (omega (arith, z, short.0));
      fits = λ z. absurd (omega (arith, z, short.0));
      left = λ z. absurd (omega (arith, z, short.0));
      holds = λ z. absurd (omega (arith, z, short.0));
      value = λ z. absurd (omega (arith, z, short.0));
      behind = λ z. absurd (omega (arith, z, short.0));
      room = λ _. (omega (arith, is, short.1), map value_in list, holds, is ∙ sym (length-map list value_in));
      asked = λ _. fine;
      codes = inr (inr (inl short.0));
      stays = λ _. short.2;
      count_stays = λ _ other. absurd (other short.0);
    }

-- the ends of a range of the library
abbrev pub ends_of : AddressRange IpAddr → List Bool × List Bool
ends_of r = (ip_address_bits r.first, ip_address_bits r.last)

pub ranges_alike : (networks set : List (List Bool)) (ranges : List (List Bool × List Bool)) → IsSetOf 129 (Covers networks) set
    → AreRanges 129 (Covers set) ranges → AreRanges 129 (Covers networks) ranges
ranges_alike networks set ranges is h = record {
  some = h.some;
  exact = λ a l. (λ c. (h.exact a l).0 ((is.exact a l).1 c), λ r. (is.exact a l).0 ((h.exact a l).1 r));
  apart = h.apart;
}

-- one range more
pub range_more : (ranges : List CRange) (r : CRange) (yielded : List (AddressRange IpAddr)) (range : AddressRange IpAddr)
    → All IsRangeValue ranges × (map range_in ranges ≡ map ends_of yielded) → IsRangeValue r → range_in r ≡ ends_of range
    → All IsRangeValue (ranges ++ r ∷ []) × (map range_in (ranges ++ r ∷ []) ≡ map ends_of (yielded ++ range ∷ []))
range_more ranges r yielded range h fine same = (
  All-push IsRangeValue ranges r h.0 fine,
  map-append range_in ranges (r ∷ [])
      ∙ (ap₂ (λ (xs : List (List Bool × List Bool)) (x : List Bool × List Bool). xs ++ x ∷ []) h.1 same ∙ sym (map-append ends_of yielded (range ∷ []))),
)
