-- Equal values are the same, of one family and of either.
use Rattle.std.proofs.Common.{◌≡◌, ◌↔◌, Bool, List, true, false, refl, sym, ap, ◌∙◌, subst, IsTrue, eq-eqb}
use Rattle.std.proofs.lemmas.Cmp.{tied_itself}
use Rattle.std.specs.declared.cmp.Ordering.{Ordering}
use Rattle.std.specs.declared.cmp.Ordering.TheVariants.{Less, Equal, Greater}
use Rattle.std.specs.Bool.{Decides}
use Rattle.std.specs.Ordering.{is_eq}
use Rattle.cidr.specs.model.Bits.{bit_cmp, bit_eq}
use Rattle.cidr.specs.model.Host.{Host, host_cmp, host_eq}
use Rattle.cidr.specs.model.Pair.{Pair, pair_eq}
use Rattle.cidr.specs.laws.BitLaws.{bit_eq_Decides, bit_eq_ties}
use Rattle.cidr.specs.laws.HostLaws.{host_eq_ties, host_cmp_total, same_host_image}
use Rattle.cidr.specs.laws.PairLaws.{same_pair_image}

-- an equality that tells the same values
pub record IsTelling {V : Type 0} (eq : V → V → Bool) : Type 0 where
  pub same : (a b : V) → eq a b ≡ true → a ≡ b
  pub own : (a : V) → eq a a ≡ true

pub bits_told : IsTelling bit_eq
bits_told = record { same = λ a b. (bit_eq_Decides a b).0; own = λ a. (bit_eq_Decides a a).1 refl }

host_own : (a : Host) → host_eq a a ≡ true
host_own a = host_eq_ties a a ∙ ap is_eq (tied_itself host_cmp_total a)

pub hosts_told : IsTelling host_eq
hosts_told = record { same = λ a b. same_host_image (λ h. h) a b; own = host_own }

pair_own : (a : Pair) → pair_eq a a ≡ true
pair_own a =
    rw ((bit_eq_Decides a.first a.first).1 refl, (bit_eq_Decides a.second a.second).1 refl) (eq-eqb a.len a.len refl)

pub pairs_told : IsTelling pair_eq
pairs_told = record { same = λ a b. same_pair_image (λ p. p) a b; own = pair_own }

is_equal : (o : Ordering) → is_eq o ≡ true → o ≡ Equal
is_equal Less h = absurd (cc)
is_equal Equal h = refl
is_equal Greater h = absurd (cc)

-- in one family, where `made` puts a value of it among those of either
module _ {V E : Type 0} (made : V → E) (back : (a b : V) → made a ≡ made b → a ≡ b) where
  pub told_in : (eq : V → V → Bool) → IsTelling eq → (a b : V) → IsTrue (eq a b) ↔ (made a ≡ made b)
  told_in eq t a b = (λ h. ap made (t.same a b h), λ e. subst (λ x. eq a x ≡ true) (back a b e) (t.own a))

  pub tied_in : (eq : V → V → Bool) (cmp : V → V → Ordering) → IsTelling eq → ((x y : V) → eq x y ≡ is_eq (cmp x y)) → (a b : V) → (cmp a b ≡ Equal) ↔ (made a ≡ made b)
  tied_in eq cmp t ties a b = (
    λ h. ap made (t.same a b (ties a b ∙ ap is_eq h)),
    λ e. is_equal (cmp a b) (sym (ties a b) ∙ subst (λ x. eq a x ≡ true) (back a b e) (t.own a)),
  )

-- of two families
pub apart : {E : Type 0} (x y : E) → ¬ (x ≡ y) → IsTrue false ↔ (x ≡ y)
apart x y differ = (λ h. absurd (cc), λ e. absurd (differ e))

pub apart_less : {E : Type 0} (x y : E) → ¬ (x ≡ y) → (Less ≡ Equal) ↔ (x ≡ y)
apart_less x y differ = (λ h. absurd (cc), λ e. absurd (differ e))

pub apart_greater : {E : Type 0} (x y : E) → ¬ (x ≡ y) → (Greater ≡ Equal) ↔ (x ≡ y)
apart_greater x y differ = (λ h. absurd (cc), λ e. absurd (differ e))

-- the addresses, networks and hosts of one family
pub bits_tied : (p q : List Bool) → bit_eq p q ≡ is_eq (bit_cmp p q)
bits_tied = bit_eq_ties

pub hosts_tied : (a b : Host) → host_eq a b ≡ is_eq (host_cmp a b)
hosts_tied = host_eq_ties

-- an equality that tells the same values decides whether they are the same
told_Decides : {V : Type 0} (eq : V → V → Bool) → IsTelling eq → (a b : V) → Decides (eq a b) (a ≡ b)
told_Decides eq t a b = (t.same a b, λ e. subst (λ x. eq a x ≡ true) e (t.own a))

pub host_eq_Decides : (a b : Host) → Decides (host_eq a b) (a ≡ b)
host_eq_Decides = told_Decides host_eq hosts_told

pub pair_eq_Decides : (a b : Pair) → Decides (pair_eq a b) (a ≡ b)
pair_eq_Decides = told_Decides pair_eq pairs_told
