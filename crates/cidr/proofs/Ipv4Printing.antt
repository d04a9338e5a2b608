-- What is printed of an IPv4 address spells it.
use Rattle.std.proofs.Common.{◌≡◌, ℕ, ◌<◌, Bool, List, [], ◌∷◌, ◌++◌, length, get_or, decimal, refl, sym, arith, append_assoc}
use Rattle.cidr.specs.model.Address.{octets_of}
use Rattle.cidr.specs.texts.Ipv4Text.{IsOctetText, IsJoined, IsIpv4Text, dot}
use Rattle.cidr.specs.texts.PrintedAddress.{dotted, ipv4_text}
use Rattle.cidr.proofs.OctetReading.{IsOctetText-decimal}
use Rattle.cidr.proofs.PartLaws.{length-parts_of, parts_fit, flat_map-parts_of}

-- an address is its octets
spelled_four : (o : List ℕ) → length o ≡ 4 → ((i : ℕ) → get_or o i 0 < 256) → IsJoined IsOctetText (dotted o) o
spelled_four [] e fits = absurd (omega arith)
spelled_four (a ∷ []) e fits = absurd (omega arith)
spelled_four (a ∷ b ∷ []) e fits = absurd (omega arith)
spelled_four (a ∷ b ∷ c ∷ []) e fits = absurd (omega arith)
spelled_four (a ∷ b ∷ c ∷ d ∷ []) e fits = (
  decimal a,
  _,
  refl,
  IsOctetText-decimal a (fits 0),
  (decimal b, _, refl, IsOctetText-decimal b (fits 1), (decimal c, decimal d, refl, IsOctetText-decimal c (fits 2), IsOctetText-decimal d (fits 3))),
)
spelled_four (a ∷ b ∷ c ∷ d ∷ f ∷ o) e fits = absurd (omega arith)

pub IsIpv4Text-ipv4_text : (a : List Bool) → length a ≡ 32 → IsIpv4Text (ipv4_text a) a
unfolding ipv4_text
IsIpv4Text-ipv4_text a e =
    let four = length-parts_of 8 4 a in
    record {
      octets = octets_of a;
      four = four;
      joined = spelled_four (octets_of a) four (parts_fit 8 4 a e);
      value = sym (flat_map-parts_of 8 4 a e);
    }

pub dotted_pushed : (old : List ℕ) (a b c d : ℕ) → (((old ++ (decimal a ++ dot ∷ [])) ++ (decimal b ++ dot ∷ [])) ++ (decimal c ++ dot ∷ [])) ++ decimal d ≡ old ++ dotted (a ∷ b ∷ c ∷ d ∷ [])
dotted_pushed old a b c d = simp append_assoc

pub ruleset ipv4_text_laws = (IsIpv4Text-ipv4_text)
