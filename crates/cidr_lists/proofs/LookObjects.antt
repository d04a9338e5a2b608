-- Look-ups as objects of JSON, and what these tell again.
use Rattle.std.proofs.Common.{◌≡◌, ◌≢◌, refl, sym, ◌∙◌, ap, arith, ℕ, ◌≤◌, Bool, List, [], ◌∷◌, ◌++◌, Contains, append_assoc, append-nil, codes, length, map, Option, Some, None, option_to_list, IfSome}
use Rattle.std.specs.Char.{digit_value}
use Rattle.std.specs.List.{flat_map, slice_split}
use Rattle.cidr.specs.either.IpAddress.{IsIpAddress, IsIpText, address_family}
use Rattle.cidr.specs.model.Network.{width_of}
use Rattle.cidr.specs.texts.Ipv4Text.{dot}
use Rattle.cidr.specs.texts.Ipv6Text.{colon}
use Rattle.cidr.specs.texts.NetworkText.{plus, slash}
use Rattle.cidr.specs.texts.PrintedAddress.{ip_text, ipv4_text, ipv6_text}
use Rattle.cidr.specs.texts.Refusal.{Lacks}
use Rattle.cidr.specs.declared.addr.ip.IpAddr.{IpAddr}
use Rattle.cidr.specs.declared.addr.ip.IpAddr.TheVariants.{V4, V6}
use Rattle.cidr.specs.declared.family.Family.{Family}
use Rattle.cidr.specs.declared.family.Family.TheVariants.{Ipv4, Ipv6}
use Rattle.cidr.proofs.Cuts.{Lacks-append}
use Rattle.cidr.proofs.NetworkPrinting.{IsAddressText-address_text}
use Rattle.cidr_lists.specs.Formats.{json, network_by}
use Rattle.cidr_lists.specs.Json.{quote, string_text}
use Rattle.cidr_lists.specs.Lists.{is_line_feed}
use Rattle.cidr_lists.specs.LookUps.{LookUp, found_object, look_object, object_front}
use Rattle.cidr_lists.specs.Printing.{line}
use Rattle.cidr_lists.specs.ReadBack.{FoundTells, IsLookUp, LookTells, TellsLooks}
use Rattle.cidr_lists.specs.declared.formats.Notation.TheVariants.{Members}
use Rattle.cidr_lists.proofs.JsonStrings.{lacks_string, string_says}
use Rattle.cidr_lists.proofs.PlainTexts.{lacks_address}
use Rattle.cidr_lists.proofs.StyledTexts.{all_tell, lacks_by, split_lines, tells_behind, three_pushed, told, told_apart}

-- ---- addresses
ip_lacks : (c : ℕ) → 16 ≤ digit_value c → dot ≢ c → colon ≢ c → slash ≢ c → plus ≢ c → (address : IpAddr) → IsIpAddress address → Lacks c (ip_text address)
ip_lacks c far no_dot no_colon no_slash no_plus (V4 a) long =
    lacks_address c far no_dot no_colon no_slash no_plus Ipv4 (ipv4_text a) a (IsAddressText-address_text Ipv4 a long)
ip_lacks c far no_dot no_colon no_slash no_plus (V6 a) long =
    lacks_address c far no_dot no_colon no_slash no_plus Ipv6 (ipv6_text a) a (IsAddressText-address_text Ipv6 a long)

ip_says : (address : IpAddr) → IsIpAddress address → IsIpText (ip_text address) address
ip_says (V4 a) long = IsAddressText-address_text Ipv4 a long
ip_says (V6 a) long = IsAddressText-address_text Ipv6 a long

-- ---- objects
-- the object of a look-up
abbrev object : LookUp → List ℕ
object look = found_object (address_family look.address) (ip_text look.address) look.found

module _ (family : Family) (address : List ℕ) where
  found_tells : (found : Option (List Bool × List ℕ)) → IfSome found (λ (row : List Bool × List ℕ). length row.0 ≤ width_of family)
      → FoundTells family (found_object family address found) address found
  found_tells None fits = refl
  found_tells (Some (p, value)) fits = (string_text value, string_says value, tells_behind family p fits (object_front address value))

  module _ (apart : Lacks 10 address) where
    front_apart : (value : List ℕ) → Lacks 10 (object_front address value)
    front_apart value =
        let a = codes "{\"address\":\"" in
        let b = codes "\",\"value\":\"" in
        let c = codes "\",\"network\":\"" in
        let text = string_text value in
        Lacks-append 10 a (address ++ (b ++ (text ++ c))) (lacks_by 10 a refl) (Lacks-append 10 address (b ++ (text ++ c)) apart
        (Lacks-append 10 b (text ++ c) (lacks_by 10 b refl) (Lacks-append 10 text c (lacks_string value) (lacks_by 10 c refl))))

    found_apart : (found : Option (List Bool × List ℕ)) → IfSome found (λ (row : List Bool × List ℕ). length row.0 ≤ width_of family)
        → Lacks 10 (found_object family address found)
    found_apart None fits =
        let a = codes "{\"address\":\"" in
        let b = codes "\",\"value\":null,\"network\":null}" in
        Lacks-append 10 a (address ++ b) (lacks_by 10 a refl) (Lacks-append 10 address b apart (lacks_by 10 b refl))
    found_apart (Some (p, value)) fits = Lacks-append 10 (object_front address value) (told family p) (front_apart value) (told_apart family p fits)

object_tells : (look : LookUp) → IsLookUp look → LookTells (object look) look
object_tells look (long, fits) = (
  ip_text look.address,
  ip_lacks quote (omega arith) (omega arith) (omega arith) (omega arith) (omega arith) look.address long,
  ip_says look.address long,
  found_tells (address_family look.address) (ip_text look.address) look.found fits,
)

object_apart : (look : LookUp) → IsLookUp look → Lacks 10 (object look)
object_apart look (long, fits) =
    found_apart (address_family look.address) (ip_text look.address)
    (ip_lacks 10 (omega arith) (omega arith) (omega arith) (omega arith) (omega arith) look.address long) look.found fits

same_objects : (looks : List (Option LookUp)) → flat_map look_object looks ≡ flat_map (λ look. line (object look)) (flat_map option_to_list looks)
same_objects [] = refl
same_objects (None ∷ looks) = same_objects looks
same_objects (Some look ∷ looks) = ap (λ (k : List ℕ). line (object look) ++ k) (same_objects looks)

pub looks_read : (looks : List (Option LookUp)) → ((look : LookUp) → Contains (flat_map option_to_list looks) look → IsLookUp look)
    → TellsLooks (flat_map look_object looks) (flat_map option_to_list looks)
looks_read looks fit =
    let found = flat_map option_to_list looks in (
      map object found,
      ap (slice_split is_line_feed) (same_objects looks ∙ sym (append-nil (flat_map (λ look. line (object look)) found)))
          ∙ split_lines object IsLookUp object_apart found [] fit,
      all_tell (λ (family : Family). object) (λ (family : Family). IsLookUp) (λ (family : Family). LookTells)
          (λ family. object_apart) (λ family. object_tells) Ipv4 found fit,
    )

-- ---- an object in its pieces
object_pieces : (a x b v c m e n : List ℕ) → ((a ++ (x ++ (b ++ (v ++ c)))) ++ (m ++ e)) ++ n ≡ a ++ (x ++ (b ++ (v ++ (c ++ (m ++ (e ++ n))))))
object_pieces a x b v c m e n = simp append_assoc

none_pieces : (a x b n : List ℕ) → (a ++ (x ++ b)) ++ n ≡ a ++ (x ++ (b ++ n))
none_pieces a x b n = simp append_assoc

module _ (family : Family) (address : List ℕ) where
  -- what stands behind the address
  abbrev pub rest_of : List Bool → List ℕ → List ℕ
  rest_of p value = codes "\",\"value\":\"" ++ (string_text value ++ (codes "\",\"network\":\"" ++ (network_by Members family p ++ line (json family).behind)))

  pub some_pushed : (p : List Bool) (value old one two new : List ℕ) → one ≡ old ++ codes "{\"address\":\"" → two ≡ one ++ address → new ≡ two ++ rest_of p value
      → new ≡ old ++ line (found_object family address (Some (p, value)))
  some_pushed p value old one two new first second third =
      three_pushed old one two new (codes "{\"address\":\"") address (rest_of p value) first second third
      ∙ ap (λ (k : List ℕ). old ++ k)
      (sym (object_pieces (codes "{\"address\":\"") address (codes "\",\"value\":\"") (string_text value) (codes "\",\"network\":\"")
      (network_by Members family p) ((json family).behind) (10 ∷ [])))

  pub none_pushed : (old one two new : List ℕ) → one ≡ old ++ codes "{\"address\":\"" → two ≡ one ++ address
      → new ≡ two ++ codes "\",\"value\":null,\"network\":null}\n" → new ≡ old ++ line (found_object family address None)
  none_pushed old one two new first second third =
      three_pushed old one two new (codes "{\"address\":\"") address (codes "\",\"value\":null,\"network\":null}\n") first second third
      ∙ ap (λ (k : List ℕ). old ++ k) (sym (none_pieces (codes "{\"address\":\"") address (codes "\",\"value\":null,\"network\":null}") (10 ∷ [])))
