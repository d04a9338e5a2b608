-- Tables in an ASCII string, with a row of the same width for each byte.
use Rattle.std.proofs.Common.{◌≡◌, ℕ, ◌*◌, ◌<◌, Bool, List, [], ◌∷◌, true, ◌&&◌, map, take, drop, get_or, nat_lt, IsAscii, sym, ap, subst, ◌∙◌, arith}
use Rattle.std.proofs.lemmas.Bool.{ltb-true}
use Rattle.std.proofs.lemmas.List.FromFn.{get_or-map-range_with_len}
use Rattle.std.proofs.lemmas.Str.{IsAscii-take, IsAscii-drop}
use Rattle.std.proofs.lemmas.Str.Ascii.{IsAscii-cons, IsAscii-nil}
use Rattle.std.specs.List.{list_all, range_with_len}

pub both_of : (x y : Bool) → (x && y) ≡ true → (x ≡ true) × (y ≡ true)
both_of x y h = grind arith

pub IsAscii-from_test : (bs : List ℕ) → list_all (λ b. nat_lt b 128) bs ≡ true → IsAscii bs
IsAscii-from_test [] h = IsAscii-nil
IsAscii-from_test (b ∷ bs) h =
    let both = both_of _ _ h in IsAscii-cons b bs (ltb-true b 128 both.0) (IsAscii-from_test bs both.1)

pub IsAscii-part : (table part : List ℕ) (len at : ℕ) → IsAscii table → part ≡ take len (drop at table) → IsAscii part
IsAscii-part table part len at h e = subst IsAscii (sym e) (IsAscii-take (drop at table) len (IsAscii-drop table at h))

-- a table with the right rows has the right one at each byte
abbrev pub rows : ℕ → List ℕ → List (List ℕ)
rows width table = map (λ n. take width (drop (n * width) table)) (range_with_len 0 256)

pub row_at : (width : ℕ) (table : List ℕ) (f : ℕ → List ℕ) → rows width table ≡ map f (range_with_len 0 256)
    → (n : ℕ) → n < 256 → take width (drop (n * width) table) ≡ f n
row_at width table f e n h =
    let row = λ (k : ℕ). take width (drop (k * width) table) in
    sym (get_or-map-range_with_len row 0 256 n n [] h (omega arith)) ∙ ap (λ t. get_or t n []) e
    ∙ get_or-map-range_with_len f 0 256 n n [] h (omega arith)
