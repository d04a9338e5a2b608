-- Whether a row is one of a range.
use Rattle.std.proofs.Common.{◌≡◌, ◌≢◌, refl, sym, ◌∙◌, subst, ℕ, Bool, false, not, List, [], IsUtf8}
use Rattle.std.proofs.lemmas.Bool.{false≢true}
use Rattle.std.specs.Bool.{Decides}
use Rattle.std.specs.Ordering.{is_gt}
use Rattle.std.specs.declared.cmp.Ordering.{Ordering}
use Rattle.std.specs.declared.cmp.Ordering.TheVariants.{Less, Equal, Greater}
use Rattle.cidr.specs.either.IpAddress.{IsIpText, address_family, plain_bits}
use Rattle.cidr.specs.model.Bits.{bit_cmp}
use Rattle.cidr.specs.declared.addr.ip.IpAddr.{IpAddr}
use Rattle.cidr.proofs.EitherAddresses.{one_ip_address}
use Rattle.cidr_lists.specs.Fields.{IsFieldOf, field_at}
use Rattle.cidr_lists.specs.Forms.{IsRangeRow, IsUpTo, place_at}
use Rattle.cidr_lists.specs.declared.columns.Column.{Column}
use Rattle.cidr_lists.specs.declared.columns.Separator.{Separator}
use Rattle.cidr_lists.proofs.Standing.{one_trimmed}

not_greater : (o : Ordering) → Decides (not (is_gt o)) (o ≢ Greater)
not_greater Less = (λ e. λ k. cc, λ h. refl)
not_greater Equal = (λ e. λ k. cc, λ h. refl)
not_greater Greater = (λ e. absurd (false≢true e), λ h. absurd (h refl))

pub up_to : (a b : IpAddr) (o : Ordering) (greater : Bool) → address_family a ≡ address_family b → o ≡ bit_cmp (plain_bits a) (plain_bits b)
    → greater ≡ is_gt o → Decides (not greater) (IsUpTo a b)
up_to a b o greater one is told =
    let both : Decides (not greater) (bit_cmp (plain_bits a) (plain_bits b) ≢ Greater)
    = subst (λ (k : Bool). Decides (not k) (bit_cmp (plain_bits a) (plain_bits b) ≢ Greater)) (sym told)
    (subst (λ (k : Ordering). Decides (not (is_gt k)) (bit_cmp (plain_bits a) (plain_bits b) ≢ Greater)) (sym is) (not_greater (bit_cmp (plain_bits a) (plain_bits b)))) in
    (λ e. (one, both.0 e), λ h. both.1 h.1)

one_field : (column : Column) (line x y : List ℕ) → IsFieldOf column line x → IsFieldOf column line y → x ≡ y
one_field column line x y h k = one_trimmed (field_at column.separator column.place line) x y h k

module _ (separator : Separator) (first rest : List ℕ) where
  module _ (second : List ℕ) (in_second : IsFieldOf (place_at separator 0) rest second) where
    pub no_end : (IsUtf8 second → (b : IpAddr) → ¬ (IsIpText second b)) → Decides false (IsRangeRow separator first rest)
    no_end none = (
      λ e. absurd (false≢true e),
      λ h.
          let (a, b, other, third, first_text, first_is, also, text, is, behind, some, up) = h in
          let same : other ≡ second = one_field (place_at separator 0) rest other second also in_second in
          absurd (none (subst IsUtf8 same text) b (subst (λ (k : List ℕ). IsIpText k b) same is)),
    )

    module _ (third : List ℕ) (in_third : IsFieldOf (place_at separator 1) rest third) where
      pub no_more : third ≡ [] → Decides false (IsRangeRow separator first rest)
      no_more nothing = (
        λ e. absurd (false≢true e),
        λ h.
            let (a, b, other, last, first_text, first_is, also, text, is, behind, some, upto) = h in
            absurd (some (one_field (place_at separator 1) rest last third behind in_third ∙ nothing)),
      )

      module _ (a b : IpAddr) (first_text : IsUtf8 first) (first_is : IsIpText first a) (text : IsUtf8 second) (is : IsIpText second b) where
        pub more_behind : third ≢ [] → (r : Bool) → Decides r (IsUpTo a b) → Decides r (IsRangeRow separator first rest)
        more_behind some r told = (
          λ e. (a, b, second, third, first_text, first_is, in_second, text, is, in_third, some, told.0 e),
          λ h.
              let (a′, b′, other, last, first_text′, first_is′, also, text′, is′, behind, some′, upto) = h in
              let same : other ≡ second = one_field (place_at separator 0) rest other second also in_second in
              let one : a′ ≡ a = one_ip_address first a′ a first_is′ first_is in
              let two : b′ ≡ b = one_ip_address second b′ b (subst (λ (k : List ℕ). IsIpText k b′) same is′) is in
              told.1 (subst (λ (k : IpAddr). IsUpTo a k) two (subst (λ (k : IpAddr). IsUpTo k b′) one upto)),
        )
