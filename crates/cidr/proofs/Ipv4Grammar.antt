-- Texts joined by dots spell one list, and an IPv4 text spells one address.
use Rattle.std.proofs.Common.{◌≡◌, ◌≢◌, ℕ, ◌≤◌, Bool, List, [], ◌∷◌, ◌++◌, refl, sym, ap, ap₂, ◌∙◌, subst, arith}
use Rattle.std.specs.Char.{digit_value}
use Rattle.cidr.specs.model.Address.{octet_bits}
use Rattle.cidr.specs.texts.Ipv4Text.{IsOctetText, IsJoined, IsIpv4Text, dot}
use Rattle.cidr.specs.texts.NetworkText.{slash}
use Rattle.cidr.specs.texts.Refusal.{Lacks}
use Rattle.cidr.proofs.Cuts.{Lacks-append, Lacks-cons, Lacks-digits, not_lacking, one_first_cut}

-- what holds of the address texts of a family: none has a slash, and each spells one address
pub record IsGrammar (IsText : List ℕ → List Bool → Type 0) : Type 0 where
  pub no_slash : (text : List ℕ) (a : List Bool) → IsText text a → Lacks slash text
  pub one_value : (text : List ℕ) (a b : List Bool) → IsText text a → IsText text b → a ≡ b

-- ---- joined texts, where no part has a dot and each part spells one number
module _ (Part : List ℕ → ℕ → Type 0) (no_dot : (text : List ℕ) (n : ℕ) → Part text n → Lacks dot text) (one : (text : List ℕ) (m n : ℕ) → Part text m → Part text n → m ≡ n) where
  -- a text that is cut at its first dot
  pub first_part : (front back : List ℕ) (ns : List ℕ) → Lacks dot front → IsJoined Part (front ++ dot ∷ back) ns → (n : ℕ) × (more : List ℕ) × (ns ≡ n ∷ more) × Part front n × IsJoined Part back more
  first_part front back [] lacks h = absurd h
  first_part front back (n ∷ []) lacks h = absurd (not_lacking dot front back (no_dot (front ++ dot ∷ back) n h))
  first_part front back (n ∷ m ∷ ns) lacks (f, b, split, p, more) =
      let (same_front, same_back) = one_first_cut dot front back f b split lacks (no_dot f n p) in
      (n, m ∷ ns, refl, subst (λ t. Part t n) (sym same_front) p, subst (λ t. IsJoined Part t (m ∷ ns)) (sym same_back) more)

  -- a joined text spells one list
  pub one_joined : (text ms ns : List ℕ) → IsJoined Part text ms → IsJoined Part text ns → ms ≡ ns
  one_joined text [] ns h k = absurd h
  one_joined text (m ∷ []) [] h k = absurd k
  one_joined text (m ∷ []) (n ∷ []) h k = ap (λ x. x ∷ []) (one text m n h k)
  one_joined text (m ∷ []) (n ∷ n' ∷ ns) h (f, b, split, p, more) = absurd (not_lacking dot f b (subst (Lacks dot) split (no_dot text m h)))
  one_joined text (m ∷ m' ∷ ms) ns (f, b, split, p, more) k =
      let (n, rest, e, q, later) = first_part f b ns (no_dot f m p) (subst (λ t. IsJoined Part t ns) split k) in
      ap₂ (λ x t. x ∷ t) (one f m n p q) (one_joined b (m' ∷ ms) rest more later) ∙ sym e

-- a byte that is no dot and stands in no part
pub Lacks-joined : (Part : List ℕ → ℕ → Type 0) (c : ℕ) → ((text : List ℕ) (n : ℕ) → Part text n → Lacks c text) → dot ≢ c → (text ns : List ℕ) → IsJoined Part text ns → Lacks c text
Lacks-joined Part c each other text [] h = absurd h
Lacks-joined Part c each other text (n ∷ []) h = each text n h
Lacks-joined Part c each other text (n ∷ m ∷ ns) (f, b, split, p, more) =
    rw split (Lacks-append c f (dot ∷ b) (each f n p) (Lacks-cons c dot b other (Lacks-joined Part c each other b (m ∷ ns) more)))

-- ---- IPv4 texts
pub Lacks-octet : (c : ℕ) (text : List ℕ) (n : ℕ) → 10 ≤ digit_value c → IsOctetText text n → Lacks c text
Lacks-octet c text n low h = Lacks-digits 10 c text low h.digits.1

pub one_octet : (text : List ℕ) (m n : ℕ) → IsOctetText text m → IsOctetText text n → m ≡ n
one_octet text m n h k = sym h.value ∙ k.value

pub Lacks-octets : (text ns : List ℕ) → IsJoined IsOctetText text ns → Lacks slash text
Lacks-octets = Lacks-joined IsOctetText slash (λ text n. Lacks-octet slash text n (omega arith)) (omega arith)

pub ipv4_grammar : IsGrammar IsIpv4Text
ipv4_grammar = record {
  no_slash = λ text a h. Lacks-octets text h.octets h.joined;
  one_value = λ text a b h k.
      h.value ∙ ap octet_bits (one_joined IsOctetText (λ t n. Lacks-octet dot t n (omega arith)) one_octet text h.octets k.octets h.joined k.joined) ∙ sym k.value;
}
