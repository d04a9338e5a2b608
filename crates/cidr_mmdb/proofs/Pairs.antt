-- The search for a name among pairs: one step, and each end.
use Rattle.std.proofs.Common.{◌≡◌, refl, ◌∙◌, ap, arith, ℕ, zero, suc, ◌-◌, ◌<◌, true, false, List, Option, Some, None}
use Rattle.std.specs.Prelude.{cond}
use Rattle.cidr_mmdb.specs.Fields.{◌>>=◌, bytes_of, name_at}
use Rattle.cidr_mmdb.specs.Metadata.{end_at, is_named, is_unsigned, value_of}
use Rattle.cidr_mmdb.specs.declared.kinds.Field.{Field}
use Rattle.cidr_mmdb.specs.declared.kinds.Kind.{Kind}
use Rattle.cidr_mmdb.specs.declared.kinds.Kind.TheVariants.{Boolean}

abbrev one_pair : List ℕ → List ℕ → ℕ → Field × ℕ → Option ℕ
one_pair section name n key = cond (is_named section key.0 name) (Some key.1) (end_at section 512 key.1 >>= λ end. value_of section name n end)

pub pair_of : (section name : List ℕ) (n at : ℕ) → 0 < n → value_of section name n at ≡ (name_at section at >>= one_pair section name (n - 1))
unfolding value_of
pair_of section name zero at some = absurd (omega arith)
pair_of section name (suc n) at some =
    let k : n ≡ suc n - 1 = omega arith in
    ap (λ m. name_at section at >>= one_pair section name m) k

pub pairs_done : (section name : List ℕ) (n at : ℕ) → n ≡ 0 → value_of section name n at ≡ None
unfolding value_of
pairs_done section name zero at e = refl
pairs_done section name (suc n) at e = absurd (omega arith)

pub pair_nameless : (section name : List ℕ) (n at : ℕ) → 0 < n → name_at section at ≡ None → value_of section name n at ≡ None
pair_nameless section name n at some h = pair_of section name n at some ∙ ap (λ r. r >>= one_pair section name (n - 1)) h

pub pair_found : (section name : List ℕ) (n at : ℕ) (key : Field) (value : ℕ) → 0 < n → name_at section at ≡ Some (key, value) → is_named section key name ≡ true
    → value_of section name n at ≡ Some value
pair_found section name n at key value some h is =
    pair_of section name n at some ∙ ap (λ r. r >>= one_pair section name (n - 1)) h
    ∙ ap (λ b. cond b (Some value) (end_at section 512 value >>= λ e. value_of section name (n - 1) e)) is

pub pair_endless : (section name : List ℕ) (n at : ℕ) (key : Field) (value : ℕ) → 0 < n → name_at section at ≡ Some (key, value) → is_named section key name ≡ false
    → end_at section 512 value ≡ None → value_of section name n at ≡ None
pair_endless section name n at key value some h is gone =
    pair_of section name n at some ∙ ap (λ r. r >>= one_pair section name (n - 1)) h
    ∙ ap (λ b. cond b (Some value) (end_at section 512 value >>= λ e. value_of section name (n - 1) e)) is
    ∙ ap (λ r. r >>= λ e. value_of section name (n - 1) e) gone

pub pair_passed : (section name : List ℕ) (n at : ℕ) (key : Field) (value next : ℕ) → 0 < n → name_at section at ≡ Some (key, value) → is_named section key name ≡ false
    → end_at section 512 value ≡ Some next → value_of section name n at ≡ value_of section name (n - 1) next
pair_passed section name n at key value next some h is found =
    pair_of section name n at some ∙ ap (λ r. r >>= one_pair section name (n - 1)) h
    ∙ ap (λ b. cond b (Some value) (end_at section 512 value >>= λ e. value_of section name (n - 1) e)) is
    ∙ ap (λ r. r >>= λ e. value_of section name (n - 1) e) found

-- an unsigned number has as many bytes as its size says
pub unsigned_bytes : (kind : Kind) (size : ℕ) → is_unsigned kind ≡ true → bytes_of kind size ≡ size
unsigned_bytes Boolean size e = cc
unsigned_bytes other size e = refl
