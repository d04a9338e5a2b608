-- Hosts as the range of their addresses.
use Rattle.std.proofs.Common.{◌≡◌, refl, sym, ◌∙◌, ap, ℕ, List, [], ◌∷◌, ◌++◌, codes}
use Rattle.cidr.specs.either.IpHost.{host_address, host_family, host_parts}
use Rattle.cidr.specs.model.Host.{Host}
use Rattle.cidr.specs.texts.PrintedAddress.{ip_text}
use Rattle.cidr.specs.declared.family.Family.{Family}
use Rattle.cidr.specs.declared.inet.combined.IpInet.{IpInet}
use Rattle.cidr.specs.declared.inet.combined.IpInet.TheVariants.{V4, V6}
use Rattle.cidr_lists.specs.Descriptions.{host_text, last_text, range_text}

abbrev pub Shown : Type 0
Shown = Family × Host

-- the host as it is walked
abbrev pub item_of : IpInet → Shown
item_of host = (host_family host, host_parts host)

host_shown : (host : IpInet) → ip_text (host_address host) ≡ host_text (item_of host)
host_shown (V4 h) = refl
host_shown (V6 h) = refl

last_there : (first : Shown) (rest : List Shown) (last : Shown) → last_text first (rest ++ last ∷ []) ≡ host_text last
last_there first [] last = refl
last_there first (next ∷ rest) last = last_there next rest last

both_ends : (first : Shown) (rest : List Shown) (last : Shown) → range_text (first ∷ (rest ++ last ∷ [])) ≡ host_text first ++ (codes "-" ++ host_text last)
both_ends first [] last = refl
both_ends first (next ∷ rest) last = ap (λ (k : List ℕ). host_text first ++ (codes "-" ++ k)) (last_there next rest last)

pub no_hosts : (hosts : List Shown) → hosts ≡ [] → codes "none" ≡ range_text hosts
no_hosts hosts is = ap range_text (sym is)

pub only_host : (host : IpInet) (hosts rest : List Shown) → hosts ≡ item_of host ∷ rest → rest ≡ [] → ip_text (host_address host) ≡ range_text hosts
only_host host hosts rest is none = host_shown host ∙ ap range_text (sym (is ∙ ap (λ (k : List Shown). item_of host ∷ k) none))

pub first_and_last : (first last : IpInet) (hosts rest between : List Shown) → hosts ≡ item_of first ∷ rest → rest ≡ between ++ item_of last ∷ []
    → ip_text (host_address first) ++ (codes "-" ++ ip_text (host_address last)) ≡ range_text hosts
first_and_last first last hosts rest between is ends =
    ap (λ (k : List ℕ). k ++ (codes "-" ++ ip_text (host_address last))) (host_shown first)
    ∙ (ap (λ (k : List ℕ). host_text (item_of first) ++ (codes "-" ++ k)) (host_shown last)
    ∙ sym (ap range_text (is ∙ ap (λ (k : List Shown). item_of first ∷ k) ends) ∙ both_ends (item_of first) between (item_of last)))
