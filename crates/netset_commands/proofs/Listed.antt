-- Files in the place of a list: files of look-ups, and lines.
use Rattle.std.proofs.Common.{◌≡◌, refl, sym, ◌∙◌, ap, ap₂, subst, inr, arith, ℕ, suc, ◌+◌, ◌<◌, ◌≤◌, min, Bool, List, [], ◌∷◌, ◌++◌, length, map, take, get_or, append_assoc, Option, Some}
use Rattle.std.proofs.lemmas.List.{get_or-map, length-map, map-id, map_more, map_push, take_all}
use Rattle.std.proofs.lemmas.Slice.Zip.{get_or-zip, length-zip}
use Rattle.std.specs.Map.{keys_of}
use Rattle.cidr.specs.declared.family.Family.{Family}
use Rattle.cidr.specs.declared.family.Family.TheVariants.{Ipv4, Ipv6}
use Rattle.cidr.specs.model.Bits.{bits}
use Rattle.cidr_lookup.specs.Keys.{prefix_bits}
use Rattle.cidr_files.specs.Layout.{wide_words, words}
use Rattle.cidr_files.specs.Tables.{part_at, parts_in, stored_networks, value_in}
use Rattle.cidr_files.specs.declared.layout.FileTables.{FileTables}
use Rattle.cidr_lists.specs.Lists.{Text}
use Rattle.cidr_lists.specs.Reading.{listed}
use Rattle.cidr_lists.specs.Sets.{networks_of}
use Rattle.cidr_lists.specs.declared.lists.Lists.{Lists}
use Rattle.cidr_lists.specs.declared.sets.Sets.{Sets}
use Rattle.cidr_sets.specs.model.Sets.{IsSetOf}
use Rattle.cidr_table.specs.model.Cover.{Covers}
use Rattle.netset_commands.specs.Answering.{HaveListAddresses}
use Rattle.netset_commands.specs.Commands.{IsInRow}
use Rattle.netset_commands.specs.Compiled.{HasTable}
use Rattle.netset_commands.specs.Stored.{AreFileBytes, IsNotGiven, by_family, rows_from, file_rows}
use Rattle.netset_commands.specs.declared.errors.CommandError.{CommandError}
use Rattle.netset_commands.specs.declared.errors.CommandError.TheVariants as error

-- ---- why it is not read
pub no_list : {IsOther : CommandError → Type 0} (IsUnread : CommandError → Type 0) (contents : Option Text) (name : List ℕ) (e : CommandError)
    → ((e : CommandError) → IsOther e → IsUnread e) → IsNotGiven IsOther contents name e → IsNotGiven IsUnread contents name e
no_list IsUnread contents name (error.File file why) f h = h
no_list IsUnread contents name (error.Line file number e) f h = (f (error.Line file number e) h.0, h.1)
no_list IsUnread contents name (error.Argument text e) f h = f (error.Argument text e) h
no_list IsUnread contents name (error.Input file why) f h = f (error.Input file why) h
no_list IsUnread contents name error.NoMemory f h = f error.NoMemory h
no_list IsUnread contents name error.Output f h = f error.Output h

-- ---- the networks of rows
pub networks_of_rows : (w : ℕ) (value : ℕ → List ℕ) (networks : List (ℕ × ℕ)) (place : ℕ) → keys_of (rows_from w value networks place) ≡ map (prefix_bits w) networks
networks_of_rows w value [] place = refl
networks_of_rows w value (network ∷ networks) place = ap (λ (ks : List (List Bool)). prefix_bits w network ∷ ks) (networks_of_rows w value networks (suc place))

abbrev pub prefixes : ℕ → (List ℕ → List ℕ) → List (List ℕ) → List (List Bool)
prefixes w numbers parts = map (prefix_bits w) (stored_networks numbers parts)

-- one more
network_at : {W : Type 0} (w : ℕ) (value : W → ℕ) (numbers : List ℕ → List ℕ) (parts : List (List ℕ)) (addresses : List W) (row len : ℕ) (address : W)
    → map value addresses ≡ numbers (part_at parts 2) → row < length addresses → row < length (part_at parts 3) → address ≡ get_or addresses row address
    → len ≡ get_or (part_at parts 3) row 0 → take len (bits w (value address)) ≡ prefix_bits w (get_or (stored_networks numbers parts) row (0, 0))
network_at w value numbers parts addresses row len address are l l' here at =
    let numbered : get_or (numbers (part_at parts 2)) row 0 ≡ value address =
    ap (λ (ns : List ℕ). get_or ns row 0) (sym are) ∙ (get_or-map value addresses row address 0 l ∙ ap value (sym here)) in
    let within : row < length (numbers (part_at parts 2)) = omega (arith, l, ap length are, length-map addresses value) in
    let pair : get_or (stored_networks numbers parts) row (0, 0) ≡ (value address, len) =
    get_or-zip (numbers (part_at parts 2)) (part_at parts 3) row (0, 0) within l' ∙ ap₂ (λ (a b : ℕ). (a, b)) numbered (sym at) in
    ap (prefix_bits w) (sym pair)

pub network_pushed : {C W : Type 0} (bits_of : C → List Bool) (w : ℕ) (value : W → ℕ) (numbers : List ℕ → List ℕ) (parts : List (List ℕ)) (addresses : List W)
    (old now new : List C) (row len : ℕ) (address : W) (host item : C)
    → map value addresses ≡ numbers (part_at parts 2) → row < length addresses → row < length (part_at parts 3) → address ≡ get_or addresses row address
    → len ≡ get_or (part_at parts 3) row 0 → bits_of host ≡ bits w (value address) → bits_of item ≡ take len (bits_of host) → new ≡ now ++ item ∷ []
    → map bits_of now ≡ map bits_of old ++ map (prefix_bits w) (take row (stored_networks numbers parts))
    → map bits_of new ≡ map bits_of old ++ map (prefix_bits w) (take (row + 1) (stored_networks numbers parts))
network_pushed bits_of w value numbers parts addresses old now new row len address host item are l l' here at hosted clipped pushed h =
    let networks = stored_networks numbers parts in
    let f = prefix_bits w in
    let named : bits_of item ≡ f (get_or networks row (0, 0)) =
    clipped ∙ (ap (take len) hosted ∙ network_at w value numbers parts addresses row len address are l l' here at) in
    let within : row < length networks =
    omega (arith, l, l', length-zip (numbers (part_at parts 2)) (part_at parts 3), ap length are, length-map addresses value) in
    ap (map bits_of) pushed
    ∙ (map_push bits_of now item
    ∙ (ap₂ (λ (xs : List (List Bool)) (x : List Bool). xs ++ x ∷ []) h named
    ∙ (append_assoc (map bits_of old) (map f (take row networks)) (f (get_or networks row (0, 0)) ∷ [])
    ∙ ap (λ (xs : List (List Bool)). map bits_of old ++ xs) (sym (map_more f networks row (0, 0) within)))))

pub networks_pushed : {C W : Type 0} (bits_of : C → List Bool) (w : ℕ) (value : W → ℕ) (numbers : List ℕ → List ℕ) (parts : List (List ℕ)) (addresses : List W)
    (old new : List C) (rows row : ℕ) → map value addresses ≡ numbers (part_at parts 2) → rows ≡ min (length addresses) (length (part_at parts 3)) → rows ≤ row
    → map bits_of new ≡ map bits_of old ++ map (prefix_bits w) (take row (stored_networks numbers parts))
    → map bits_of new ≡ map bits_of old ++ map (prefix_bits w) (stored_networks numbers parts)
networks_pushed bits_of w value numbers parts addresses old new rows row are is end h =
    let networks = stored_networks numbers parts in
    let past : length networks ≤ row =
    omega (arith, is, end, length-zip (numbers (part_at parts 2)) (part_at parts 3), ap length are, length-map addresses value) in
    h ∙ ap (λ (ns : List (ℕ × ℕ)). map bits_of old ++ map (prefix_bits w) ns) (take_all row networks past)

listed_rows : (table : FileTables) (old new : Lists) → old.v4.items ≡ [] → old.v6.items ≡ [] → new.v4.items ≡ old.v4.items ++ prefixes 32 words (parts_in table.ipv4)
    → new.v6.items ≡ old.v6.items ++ prefixes 128 wide_words (parts_in table.ipv6) → (family : Family) → listed new family ≡ keys_of (by_family (file_rows table) family)
listed_rows table old new four six more4 more6 Ipv4 =
    more4 ∙ (ap (λ (k : List (List Bool)). k ++ prefixes 32 words (parts_in table.ipv4)) four
    ∙ sym (networks_of_rows 32 (value_in (parts_in table.ipv4)) (stored_networks words (parts_in table.ipv4)) 0))
listed_rows table old new four six more4 more6 Ipv6 =
    more6 ∙ (ap (λ (k : List (List Bool)). k ++ prefixes 128 wide_words (parts_in table.ipv6)) six
    ∙ sym (networks_of_rows 128 (value_in (parts_in table.ipv6)) (stored_networks wide_words (parts_in table.ipv6)) 0))

same_bits : (old new more : List (List Bool)) → map (λ (p : List Bool). p) new ≡ map (λ (p : List Bool). p) old ++ more → new ≡ old ++ more
same_bits old new more is = sym (map-id new) ∙ (is ∙ ap (λ (ps : List (List Bool)). ps ++ more) (map-id old))

pub addresses_had : (table : FileTables) (old new : Lists) (sets : Sets) → old.v4.items ≡ [] → old.v6.items ≡ []
    → map (λ (p : List Bool). p) new.v4.items ≡ map (λ (p : List Bool). p) old.v4.items ++ prefixes 32 words (parts_in table.ipv4)
    → map (λ (p : List Bool). p) new.v6.items ≡ map (λ (p : List Bool). p) old.v6.items ++ prefixes 128 wide_words (parts_in table.ipv6)
    → ((family : Family) → IsSetOf 129 (Covers (listed new family)) (networks_of sets family))
    → (family : Family) → IsSetOf 129 (IsInRow (by_family (file_rows table)) family) (networks_of sets family)
addresses_had table old new sets four six more4 more6 set family =
    subst (λ (k : List (List Bool)). IsSetOf 129 (Covers k) (networks_of sets family))
    (listed_rows table old new four six (same_bits old.v4.items new.v4.items (prefixes 32 words (parts_in table.ipv4)) more4)
    (same_bits old.v6.items new.v6.items (prefixes 128 wide_words (parts_in table.ipv6)) more6) family) (set family)

-- the sets have the addresses of the file
pub are_addresses : (contents : Option Text) (bytes : List ℕ) (table : Family → List (List Bool × List ℕ)) (sets : Sets) → AreFileBytes contents bytes → HasTable table bytes
    → ((family : Family) → IsSetOf 129 (IsInRow table family) (networks_of sets family)) → (text : Text) → contents ≡ Some text → HaveListAddresses text sets
are_addresses contents bytes table sets are has set text is = inr (table, subst (HasTable table) (are text is).1 has, set)
