-- What a line says, and its networks.
use Rattle.std.proofs.Common.{◌≡◌, ◌≢◌, refl, sym, ◌∙◌, ap, inl, inr, ℕ, ◌==◌, Bool, true, false, List, [], ◌∷◌, ◌++◌, length, map, arith, Result, Ok, Err}
use Rattle.std.specs.Result.{OnOk}
use Rattle.std.proofs.lemmas.List.{append-nil, map-id}
use Rattle.std.proofs.lemmas.Bool.Decides.{Decides-eqb}
use Rattle.std.specs.Ordering.{is_gt}
use Rattle.std.specs.declared.cmp.Ordering.{Ordering}
use Rattle.std.specs.declared.cmp.Ordering.TheVariants.{Less, Equal, Greater}
use Rattle.cidr.specs.declared.addr.ip.IpAddr.{IpAddr}
use Rattle.cidr.specs.declared.cidr.combined.IpCidr.{IpCidr}
use Rattle.cidr.specs.declared.cidr.combined.IpCidr.TheVariants.{V4, V6}
use Rattle.cidr.specs.declared.family.Family.TheVariants.{Ipv4, Ipv6}
use Rattle.cidr.specs.texts.Refusal.{Lacks}
use Rattle.cidr_sets.specs.model.Ranges.{IsBetween}
use Rattle.cidr_sets.specs.model.Sets.{IsSetOf}
use Rattle.cidr_lists.specs.Lists.{IsFieldError, hyphen, line_networks, IsEnd}
use Rattle.cidr_lists.specs.Reading.{AddsContent, Grows, IsNoEnd, ReadsField}
use Rattle.cidr_lists.specs.declared.errors.LineError.{LineError}
use Rattle.cidr_lists.specs.declared.errors.LineError.TheVariants.{NoAddress}
use Rattle.cidr_lists.specs.declared.lines.HostBits.{HostBits}
use Rattle.cidr_lists.specs.declared.lines.Content.{Content}
use Rattle.cidr_lists.specs.declared.lines.Content.TheVariants.{Blank, Network, Ipv4Range, Ipv6Range}
use Rattle.cidr_lists.specs.declared.lists.Lists.{Lists}

-- ---- the order of two addresses
pub above : (o : Ordering) (b : Bool) → b ≡ is_gt o → b ≡ true → o ≡ Greater
above Less b is on = cc
above Equal b is on = cc
above Greater b is on = refl

pub not_above : (o : Ordering) (b : Bool) → b ≡ is_gt o → b ≡ false → o ≢ Greater
not_above Less b is off = λ e. cc
not_above Equal b is off = λ e. cc
not_above Greater b is off = cc

pub is_nothing : (field : List ℕ) (test : Bool) → test ≡ (length field == 0) → test ≡ true → field ≡ []
is_nothing [] test is on = refl
is_nothing (b ∷ field) test is on =
    let none : length (b ∷ field) ≡ 0 = (Decides-eqb (length (b ∷ field)) 0).0 (sym is ∙ on) in
    absurd (omega (arith, none))

-- ---- the networks of one family
pub in_v4 : (ps : List (List Bool)) → line_networks Ipv4 (map (λ (p : List Bool). V4 p) ps) ≡ ps
in_v4 [] = refl
in_v4 (p ∷ ps) = ap (λ (k : List (List Bool)). p ∷ k) (in_v4 ps)

pub in_v6 : (ps : List (List Bool)) → line_networks Ipv6 (map (λ (p : List Bool). V6 p) ps) ≡ ps
in_v6 [] = refl
in_v6 (p ∷ ps) = ap (λ (k : List (List Bool)). p ∷ k) (in_v6 ps)

pub not_in_v4 : (ps : List (List Bool)) → line_networks Ipv4 (map (λ (p : List Bool). V6 p) ps) ≡ []
not_in_v4 [] = refl
not_in_v4 (p ∷ ps) = not_in_v4 ps

pub not_in_v6 : (ps : List (List Bool)) → line_networks Ipv6 (map (λ (p : List Bool). V4 p) ps) ≡ []
not_in_v6 [] = refl
not_in_v6 (p ∷ ps) = not_in_v6 ps

none_more : (old new more : List (List Bool)) → new ≡ old → more ≡ [] → new ≡ old ++ more
none_more old new more same none = same ∙ (sym (append-nil old) ∙ ap (λ (k : List (List Bool)). old ++ k) (sym none))

-- ---- what comes behind the networks before
pub adds_nothing : (lists : Lists) → AddsContent Blank lists lists
adds_nothing lists =
    let grows : Grows lists lists (λ family. line_networks family []) = elim [
      | Ipv4 ↦ sym (append-nil lists.v4.items)
      | Ipv6 ↦ sym (append-nil lists.v6.items)
    ] in
    ([], refl, grows)

pub adds_network : {E : Type 0} (network : IpCidr) (old new : Lists) (r : Result (Unit {0}) E) → OnOk r (Grows old new (λ family. line_networks family (network ∷ [])))
    → OnOk r (AddsContent (Network network) old new)
adds_network network old new (Err e) h = tt
adds_network network old new (Ok t) h = (network ∷ [], refl, h)

abbrev pub AddsRange : List Bool → List Bool → List (List Bool) → List (List Bool) → Type 0
AddsRange first last old new = (range : List (List Bool)) × IsSetOf 129 (IsBetween first last) (map (λ (p : List Bool). p) range) × (new ≡ old ++ range)

pub adds_v4 : {E : Type 0} (first last : List Bool) (old new : Lists) (r : Result (Unit {0}) E) → OnOk r (AddsRange first last old.v4.items new.v4.items)
    → new.v6.items ≡ old.v6.items → OnOk r (AddsContent (Ipv4Range first last) old new)
adds_v4 first last old new (Err e) h six = tt
adds_v4 first last old new (Ok t) (range, set, four) six =
    let plain : IsSetOf 129 (IsBetween first last) range = rw (map-id range) at set in
    let grows : Grows old new (λ family. line_networks family (map (λ (p : List Bool). V4 p) range)) = elim [
      | Ipv4 ↦ four ∙ ap (λ (k : List (List Bool)). old.v4.items ++ k) (sym (in_v4 range))
      | Ipv6 ↦ none_more old.v6.items new.v6.items _ six (not_in_v6 range)
    ] in
    (map (λ (p : List Bool). V4 p) range, (range, plain, refl), grows)

pub adds_v6 : {E : Type 0} (first last : List Bool) (old new : Lists) (r : Result (Unit {0}) E) → OnOk r (AddsRange first last old.v6.items new.v6.items)
    → new.v4.items ≡ old.v4.items → OnOk r (AddsContent (Ipv6Range first last) old new)
adds_v6 first last old new (Err e) h four = tt
adds_v6 first last old new (Ok t) (range, set, six) four =
    let plain : IsSetOf 129 (IsBetween first last) range = rw (map-id range) at set in
    let grows : Grows old new (λ family. line_networks family (map (λ (p : List Bool). V6 p) range)) = elim [
      | Ipv4 ↦ none_more old.v4.items new.v4.items _ four (not_in_v4 range)
      | Ipv6 ↦ six ∙ ap (λ (k : List (List Bool)). old.v6.items ++ k) (sym (in_v6 range))
    ] in
    (map (λ (p : List Bool). V6 p) range, (range, plain, refl), grows)

-- ---- an end that is no address
module _ (bits : HostBits) (field front back : List ℕ) (split : field ≡ front ++ hyphen ∷ back) (lacks : Lacks hyphen front) where
  first_error : (e : LineError) → IsNoEnd front e → IsFieldError bits field e
  first_error (NoAddress bad e) none = (front, back, split, lacks, inl none)
  first_error e none = absurd none

  last_error : (e : LineError) (first : IpAddr) → IsEnd front first → IsNoEnd back e → IsFieldError bits field e
  last_error (NoAddress bad e) first is none = (front, back, split, lacks, inr (first, is, none))
  last_error e first is none = absurd none

  pub no_first : (r : Result Content LineError) (y e : LineError) → r ≡ Err y → y ≡ e → IsNoEnd front e → ReadsField bits field r
  no_first r y e is same none = rw (is, same) (first_error e none)

  pub no_last : (r : Result Content LineError) (y e : LineError) (first : IpAddr) → r ≡ Err y → y ≡ e → IsEnd front first → IsNoEnd back e → ReadsField bits field r
  no_last r y e first is same begins none = rw (is, same) (last_error e first begins none)
