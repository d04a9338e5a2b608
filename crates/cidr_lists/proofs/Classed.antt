-- What addresses are for, as it is printed.
use Rattle.std.proofs.Common.{◌≡◌, refl, sym, ◌∙◌, ap, subst, arith, ℕ, ◌<◌, Bool, true, false, List, [], ◌∷◌, ◌++◌, append_assoc, codes, decimal, length, length-append, take, Option, Some, None}
use Rattle.cidr.specs.either.IpAddress.{address_family, plain_bits}
use Rattle.cidr.specs.model.Network.{width_of}
use Rattle.cidr.specs.texts.Printed.{plain_text}
use Rattle.cidr.specs.texts.PrintedAddress.{ip_text}
use Rattle.cidr.specs.declared.addr.ip.IpAddr.{IpAddr}
use Rattle.cidr.specs.declared.family.Family.{Family}
use Rattle.cidr_ext.specs.model.Special.{HasNoEntry, IsEntryOf, block_of, entries_of}
use Rattle.cidr_ext.specs.declared.registry.SpecialEntry.{SpecialEntry}
use Rattle.cidr_lists.specs.LookUps.{gap, look_line}
use Rattle.cidr_table.specs.model.Prefixes.{IsLookedUp}
use Rattle.cidr_lists.specs.Classes.{HasClass, IsClassLine, class_text, entry_row, entry_text, purpose_name, reach_name, registry, registry_date}
use Rattle.cidr_lists.proofs.Registered.{block_begins, entry_found, from_mapped, no_entry_found}

-- ---- what is told of an address
-- an address with its entry
pub class_found : (address : IpAddr) (entry : SpecialEntry) (n v text : List ℕ) → IsEntryOf (address_family address) (plain_bits address) entry
    → length (plain_bits address) ≡ width_of (address_family address) → n ≡ plain_text (address_family address) (take entry.len (plain_bits address))
    → v ≡ entry_text entry → text ≡ (n ++ codes " ") ++ v → HasClass address text true
class_found address entry n v text is wide block told parts =
    let family = address_family address in
    let here : n ≡ plain_text family (block_of family entry) =
    block ∙ ap (plain_text family) (block_begins family (plain_bits address) entry wide is.within) in (
      Some (entry_row family entry),
      entry_found family (plain_bits address) entry is,
      parts
          ∙ (append_assoc n (codes " ") v
          ∙ (ap (λ (k : List ℕ). k ++ (codes " " ++ v)) here
          ∙ ap (λ (k : List ℕ). plain_text family (block_of family entry) ++ (codes " " ++ k)) told)),
      refl,
    )

-- an address without one
pub no_class_found : (address : IpAddr) (text : List ℕ) → HasNoEntry (address_family address) (plain_bits address) → text ≡ codes "-" → HasClass address text false
no_class_found address text none is = (None, no_entry_found (address_family address) (plain_bits address) none, is, refl)

-- ---- the line of an address
gap_there : (value : List ℕ) → 0 < length value → gap 32 value ≡ codes " "
gap_there [] some = absurd (omega (arith, some))
gap_there (byte ∷ bytes) some = refl

-- what is told of an entry is not empty
entry_there : (entry : SpecialEntry) → 0 < length (entry_text entry)
entry_there entry =
    let rest : List ℕ = decimal entry.rfc ++ (codes " " ++ (reach_name entry.globally_reachable ++ (codes " " ++ registry_date))) in
    omega (arith, length-append (purpose_name entry.purpose) (codes " RFC" ++ rest), length-append (codes " RFC") rest)

value_there : (family : Family) (a : List Bool) (row : List Bool × List ℕ) → IsLookedUp (λ (p : List Bool). p) a (registry family) (Some row) → 0 < length row.1
value_there family a row looked =
    let (entry, listed, same) = from_mapped (entry_row family) (entries_of family) row looked.here in
    subst (λ (k : List Bool × List ℕ). 0 < length k.1) same (entry_there entry)

-- the parts of a line that are put behind one another
pub joined : (a text : List ℕ) → ((a ++ codes " ") ++ text) ++ codes "\n" ≡ a ++ (codes " " ++ (text ++ codes "\n"))
joined a text = append_assoc (a ++ codes " ") text (codes "\n") ∙ append_assoc a (codes " ") (text ++ codes "\n")

text_line : (address : IpAddr) (row : Option (List Bool × List ℕ))
    → IsLookedUp (λ (p : List Bool). p) (plain_bits address) (registry (address_family address)) row
    → ip_text address ++ (codes " " ++ (class_text (address_family address) row ++ codes "\n")) ≡ look_line (Some (record { address = address; found = row }))
text_line address None looked = refl
text_line address (Some (p, value)) looked =
    let network = plain_text (address_family address) p in
    ap (λ (k : List ℕ). ip_text address ++ (codes " " ++ k))
    (append_assoc network (codes " " ++ value) (codes "\n")
    ∙ (ap (λ (k : List ℕ). network ++ k) (append_assoc (codes " ") value (codes "\n"))
    ∙ ap (λ (k : List ℕ). network ++ (k ++ (value ++ codes "\n"))) (sym (gap_there value (value_there (address_family address) (plain_bits address) (p, value) looked)))))

pub line_of_class : (address : IpAddr) (text line : List ℕ) (found : Bool) → HasClass address text found
    → line ≡ ((ip_text address ++ codes " ") ++ text) ++ codes "\n" → IsClassLine address line found
line_of_class address text line found (row, looked, told, hit) parts = (
  row,
  looked,
  parts
      ∙ (joined (ip_text address) text
      ∙ (ap (λ (k : List ℕ). ip_text address ++ (codes " " ++ (k ++ codes "\n"))) told ∙ text_line address row looked)),
  hit,
)
