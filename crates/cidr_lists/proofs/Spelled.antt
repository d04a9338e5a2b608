-- Whether an IPv4 host is spelled as it is printed.
use Rattle.std.proofs.Common.{◌≡◌, ◌≢◌, ◌∙◌, sym, ap, subst, arith, inl, inr, ℕ, ◌+◌, ◌-◌, ◌/◌, ◌%◌, ◌<◌, ◌≤◌, ◌==◌, if◌then◌else◌, Bool, true, false, List, [], ◌∷◌, ◌++◌, length, take, decimal, eq-eqb, ne_eqb}
use Rattle.std.specs.Bool.{Decides}
use Rattle.std.specs.List.{ends_with}
use Rattle.std.specs.Prelude.{◌↔◌, nat_eq}
use Rattle.std.proofs.lemmas.Bool.Decides.{Decides-eqb}
use Rattle.std.proofs.lemmas.Fmt.{decimal_digit, decimal_step}
use Rattle.std.proofs.lemmas.List.{append-nil}
use Rattle.std.proofs.lemmas.Slice.Eq.{ends_is}
use Rattle.cidr.specs.model.Host.{Host}
use Rattle.cidr.specs.texts.HostText.{IsHostText}
use Rattle.cidr.specs.texts.NetworkText.{slash}
use Rattle.cidr.specs.texts.Printed.{length_text, plain_host_text}
use Rattle.cidr.specs.texts.PrintedAddress.{ipv4_text}
use Rattle.cidr.specs.texts.Refusal.{Lacks}
use Rattle.cidr.specs.declared.family.Family.TheVariants.{Ipv4}
use Rattle.cidr.proofs.Cuts.{Lacks-length, not_lacking, one_cut}
use Rattle.cidr.proofs.GroupParts.{one_ipv4_text}
use Rattle.cidr.proofs.Ipv4Grammar.{ipv4_grammar}
use Rattle.cidr.proofs.NetworkPrinting.{IsLengthText-decimal}

pub two_digits : (n : ℕ) → 10 ≤ n → n < 100 → decimal n ≡ (48 + n / 10) ∷ (48 + n % 10) ∷ []
two_digits n more less =
    decimal_step n more (omega arith) ∙ ap (λ (t : List ℕ). t ++ (48 + n % 10) ∷ []) (decimal_digit (n / 10) (omega arith))

-- a test of the last bytes
pub ends_by : (text ds : List ℕ) (n : ℕ) (r : Bool) → decimal n ≡ ds → r ≡ ends_with nat_eq text (slash ∷ ds)
    → Decides r ((front : List ℕ) × (text ≡ front ++ length_text n))
ends_by text ds n r digits is =
    let both = ends_is Decides-eqb text (slash ∷ ds) r is in
    let front : List ℕ = take (length text - length (slash ∷ ds)) text in (
      λ t. (front, both.0 t ∙ ap (λ (k : List ℕ). front ++ slash ∷ k) (sym digits)),
      λ h. both.1 h.0 (h.1 ∙ ap (λ (k : List ℕ). h.0 ++ slash ∷ k) digits),
    )

-- an address alone
pub alone_plain : (text : List ℕ) (host : Host) → IsHostText Ipv4 text host → Lacks slash text → text ≡ plain_host_text Ipv4 host
alone_plain text host (inl (spells, full)) lacks =
    let all : (host.len == 32) ≡ true = eq-eqb host.len 32 full in
    one_ipv4_text text host.address spells
    ∙ (sym (append-nil (ipv4_text host.address))
    ∙ sym (ap (λ (b : Bool). ipv4_text host.address ++ (if b then [] else length_text host.len)) all))
alone_plain text host (inr s) lacks = absurd (not_lacking slash s.front s.back (subst (Lacks slash) s.spelled lacks))

-- an address with its full length
pub full_not_plain : (text : List ℕ) (host : Host) (front back : List ℕ) → IsHostText Ipv4 text host → text ≡ front ++ slash ∷ back → host.len ≡ 32
    → ¬ (text ≡ plain_host_text Ipv4 host)
full_not_plain text host front back (inl (spells, full)) cut all same =
    not_lacking slash front back (subst (Lacks slash) cut (ipv4_grammar.no_slash text host.address spells))
full_not_plain text host front back (inr s) cut all same =
    let test : (host.len == 32) ≡ true = eq-eqb host.len 32 all in
    let whole : text ≡ s.front =
    same ∙ (ap (λ (b : Bool). ipv4_text host.address ++ (if b then [] else length_text host.len)) test
    ∙ (append-nil (ipv4_text host.address) ∙ sym (one_ipv4_text s.front host.address s.front_text))) in
    not_lacking slash s.front s.back (subst (Lacks slash) (sym whole ∙ s.spelled) (ipv4_grammar.no_slash s.front host.address s.front_text))

-- an address with a shorter one
pub shorter_plain : (text : List ℕ) (host : Host) (r : Bool) → IsHostText Ipv4 text host → host.len < 32
    → Decides r ((front : List ℕ) × (text ≡ front ++ length_text host.len)) → (r ≡ true) ↔ (text ≡ plain_host_text Ipv4 host)
shorter_plain text host r (inl (spells, full)) short d = absurd (omega (arith, full, short))
shorter_plain text host r (inr s) short d =
    let other : host.len ≢ 32 = omega (arith, short) in
    let test : (host.len == 32) ≡ false = ne_eqb host.len 32 other in
    let plain : plain_host_text Ipv4 host ≡ ipv4_text host.address ++ length_text host.len =
    ap (λ (b : Bool). ipv4_text host.address ++ (if b then [] else length_text host.len)) test in
    let address : s.front ≡ ipv4_text host.address = one_ipv4_text s.front host.address s.front_text in
    let digits : Lacks slash (decimal host.len) =
    Lacks-length slash (decimal host.len) host.len (omega arith) (omega arith) (IsLengthText-decimal host.len (omega (arith, short))) in
    let spelled : Lacks slash s.back = Lacks-length slash s.back host.len (omega arith) (omega arith) s.back_text in (
      λ t.
          let found = d.0 t in
          let cut = one_cut slash found.0 (decimal host.len) s.front s.back (sym found.1 ∙ s.spelled) digits spelled in
          found.1 ∙ (ap (λ (k : List ℕ). k ++ length_text host.len) (cut.0 ∙ address) ∙ sym plain),
      λ same. d.1 (ipv4_text host.address, same ∙ plain),
    )
