-- The names of the zones of a network, one by one from both ends.
use Rattle.std.proofs.Common.{◌≡◌, ◌⊎◌, ℕ, ◌%◌, ◌<◌, ◌≤◌, Bool, List, [], ◌∷◌, ◌++◌, length, refl, sym, ap, ap₂, ◌∙◌, subst, arith, inl, inr, IsSome, Option, Some, None, MatchOption}
use Rattle.std.proofs.lemmas.List.{length-map, map-append}
use Rattle.std.proofs.lemmas.List.Elements.{Contains-append_left, Contains-append_right, Contains-push}
use Rattle.std.specs.List.{Contains}
use Rattle.cidr.specs.model.Network.{width_of}
use Rattle.cidr.specs.declared.family.Family.{Family}
use Rattle.cidr.specs.declared.family.Family.TheVariants.{Ipv4, Ipv6}
use Rattle.cidr_ext.specs.texts.Reverse.{label_width, reverse_text, EndsAtLabel}
use Rattle.cidr_ext.specs.model.Subnets.{HasExactlySubnets}
use Rattle.cidr_ext.specs.texts.Zones.{EndAtLabel, IsZoneLength, names_of}

first_in : {X : Type 0} (x : X) (xs : List X) → Contains (x ∷ xs) x
first_in x xs = Contains-append_left (x ∷ []) xs x (Contains-push [] x)

rest_in : {X : Type 0} (x : X) (xs : List X) (q : X) → Contains xs q → Contains (x ∷ xs) q
rest_in x xs q h = Contains-append_right (x ∷ []) xs q h

none_left : EndAtLabel []
none_left q (k, below, is) = absurd (omega (arith, below))

-- one network is taken from those that are left
module _ {C N : Type 0} (family_of : C → Family) (prefix : C → List Bool) (bytes : N → List ℕ) (now left : List (Family × List Bool)) (ends : EndAtLabel now) where
  -- what `reverse_name` of it returns
  abbrev pub Named : C → Option N → Type 0
  Named c r = MatchOption r (¬ (EndsAtLabel (family_of c) (prefix c)))
      (λ name. (bytes name ≡ reverse_text (family_of c) (prefix c)) × EndsAtLabel (family_of c) (prefix c))

  pub kept_front : (r : Option C) → MatchOption r ((now ≡ []) × (left ≡ [])) (λ c. now ≡ (family_of c, prefix c) ∷ left) → EndAtLabel left
  kept_front None h = rw h.1 none_left
  kept_front (Some c) h = λ q here. ends q (subst (λ l. Contains l q) (sym h) (rest_in (family_of c, prefix c) left q here))

  pub given_front : (c : C) (r : Option N) → now ≡ (family_of c, prefix c) ∷ left → Named c r
      → MatchOption r ((names_of now ≡ []) × (names_of left ≡ [])) (λ name. names_of now ≡ bytes name ∷ names_of left)
  given_front c None is none =
      absurd (none (ends (family_of c, prefix c) (subst (λ l. Contains l (family_of c, prefix c)) (sym is) (first_in (family_of c, prefix c) left))))
  given_front c (Some name) is found = ap names_of is ∙ ap (λ t. t ∷ names_of left) (sym found.0)

  pub kept_back : (r : Option C) → MatchOption r ((now ≡ []) × (left ≡ [])) (λ c. now ≡ left ++ (family_of c, prefix c) ∷ []) → EndAtLabel left
  kept_back None h = rw h.1 none_left
  kept_back (Some c) h = λ q here. ends q (subst (λ l. Contains l q) (sym h) (Contains-append_left left ((family_of c, prefix c) ∷ []) q here))

  pub given_back : (c : C) (r : Option N) → now ≡ left ++ (family_of c, prefix c) ∷ [] → Named c r
      → MatchOption r ((names_of now ≡ []) × (names_of left ≡ [])) (λ name. names_of now ≡ names_of left ++ bytes name ∷ [])
  given_back c None is none =
      absurd (none (ends (family_of c, prefix c) (subst (λ l. Contains l (family_of c, prefix c)) (sym is) (Contains-push left (family_of c, prefix c)))))
  given_back c (Some name) is found =
      ap names_of is ∙ map-append (λ q. reverse_text q.0 q.1) left ((family_of c, prefix c) ∷ []) ∙ ap (λ t. names_of left ++ t ∷ []) (sym found.0)

-- no names are left where no networks are
pub no_names : (now left : List (Family × List Bool)) → (now ≡ []) × (left ≡ []) → (names_of now ≡ []) × (names_of left ≡ [])
no_names now left h = (ap names_of h.0, ap names_of h.1)

pub length-names_of : (networks : List (Family × List Bool)) → length (names_of networks) ≡ length networks
length-names_of networks = length-map networks (λ q. reverse_text q.0 q.1)

-- ---- the length of the zones
pub zone_fits : (f : Family) (n : ℕ) → n ≤ width_of f → (z : ℕ) → IsZoneLength f n z → z ≤ width_of f
zone_fits Ipv4 n h z zone = omega (arith, zone.0, zone.2)
zone_fits Ipv6 n h z zone = omega (arith, zone.0, zone.2)

pub all_end : (f : Family) (p : List Bool) (n z : ℕ) (inner : List (Family × List Bool)) → IsZoneLength f n z → HasExactlySubnets f p z inner → EndAtLabel inner
all_end f p n z inner zone exactly q here =
    let (same, size, begins) = (exactly q).0 here in
    ap₂ (λ g m. m % label_width g) same size ∙ zone.0

pub has_zones : (f : Family) (n z : ℕ) {S : Type 0} (P : S → Type 0) (r : Option S) → IsZoneLength f n z → z ≤ width_of f
    → MatchOption r ((z < n) ⊎ (width_of f < z)) P → IsSome r
has_zones f n z P None zone fits h = absurd (out h)
  where
    out : (z < n) ⊎ (width_of f < z) → ⊥
    out (inl short) = omega (arith, zone.1)
    out (inr long) = omega arith
has_zones f n z P (Some s) zone fits h = refl
