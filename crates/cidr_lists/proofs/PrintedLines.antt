-- The printed lines of networks, read as a list.
use Rattle.std.proofs.Common.{◌≡◌, refl, sym, ◌∙◌, ap, ap₂, subst, inl, inr, ℕ, ◌+◌, ◌-◌, ◌≤◌, slice_index, take, Bool, false, List, [], ◌∷◌, ◌++◌, length, map, arith, append_assoc, append-nil, ne_eqb}
use Rattle.std.specs.List.{All, AllZip}
use Rattle.std.proofs.lemmas.Bool.{cases_lt}
use Rattle.std.proofs.lemmas.Grind.{get_or_default_zero}
use Rattle.std.proofs.lemmas.List.{take_all, take_at}
use Rattle.std.proofs.lemmas.List.Concat.{flat_map-append}
use Rattle.std.proofs.lemmas.List.Splits.{slice_split_at}
use Rattle.cidr.specs.either.IpHost.{host_at, host_network}
use Rattle.cidr.specs.model.Host.{first_host}
use Rattle.cidr.specs.model.Network.{width_of, zeros}
use Rattle.cidr.specs.texts.Printed.{plain_text}
use Rattle.cidr.specs.texts.Refusal.{Lacks}
use Rattle.cidr.specs.laws.NetworkLaws.{length-first_of}
use Rattle.cidr.specs.declared.cidr.combined.IpCidr.{IpCidr}
use Rattle.cidr.specs.declared.cidr.combined.IpCidr.TheVariants.{V4, V6}
use Rattle.cidr.specs.declared.family.Family.{Family}
use Rattle.cidr.specs.declared.family.Family.TheVariants.{Ipv4, Ipv6}
use Rattle.cidr.specs.declared.inet.combined.IpInet.TheVariants as host
use Rattle.cidr.proofs.Cuts.{not_lacking}
use Rattle.cidr.proofs.EitherTexts.{one_ip_host, one_ip_network}
use Rattle.cidr.proofs.NetworkPrinting.{host_plain, network_plain}
use Rattle.cidr_table.specs.model.Cover.{AreNetworks}
use Rattle.cidr_table.proofs.MapLaws.{contains_first, contains_later}
use Rattle.cidr_lists.specs.Lists.{IsContent, IsNetworkBy, IsTooLong, LineSays, ListSays, hyphen, is_line_feed, kept_of, lines_of, most_bytes, line_networks, networks_in, text_by, AreContentNetworks as AreOfContent}
use Rattle.cidr_lists.specs.Printing.{line}
use Rattle.cidr_lists.specs.ReadBack.{AreOfFamilies, SaysJust}
use Rattle.cidr_lists.specs.Reading.{without_masks}
use Rattle.cidr_lists.specs.Sets.{printed_networks, printed_sets}
use Rattle.cidr_lists.specs.declared.lines.Content.{Content}
use Rattle.cidr_lists.specs.declared.lines.Content.TheVariants.{Blank, Network, Ipv4Range, Ipv6Range}
use Rattle.cidr_lists.specs.declared.lines.HostBits.{HostBits}
use Rattle.cidr_lists.specs.declared.lines.HostBits.TheVariants.{Refused, Cleared, RefusedWithMasks, ClearedWithMasks}
use Rattle.cidr_lists.proofs.MaskedTexts.{network_again, no_mask_host, no_mask_network, one_masked}
use Rattle.cidr_lists.proofs.PlainTexts.{is_field, no_feed, no_hyphen, one_field, one_trim, with_masks}
use Rattle.cidr_lists.proofs.ShortTexts.{cut_nothing, empty_network, plain_not_long}

-- a network of a family
abbrev pub of_family : Family → List Bool → IpCidr
of_family Ipv4 p = V4 p
of_family Ipv6 p = V6 p

-- ---- the string of a network is that network
same_again : (w : ℕ) (p : List Bool) → take (length p) (p ++ zeros (w - length p)) ≡ p
same_again w p = take_at p (zeros (w - length p)) (length p) refl

plain_is : (bits : HostBits) (family : Family) (p : List Bool) → length p ≤ width_of family
    → IsNetworkBy (without_masks bits) (plain_text family p) (of_family family p)
plain_is Refused Ipv4 p fits = network_plain Ipv4 p fits
plain_is Refused Ipv6 p fits = network_plain Ipv6 p fits
plain_is Cleared Ipv4 p fits =
    (host.V4 (first_host 32 p), host_plain Ipv4 (first_host 32 p) (length-first_of 32 p fits, fits), ap (λ (k : List Bool). V4 k) (sym (same_again 32 p)))
plain_is Cleared Ipv6 p fits =
    (host.V6 (first_host 128 p), host_plain Ipv6 (first_host 128 p) (length-first_of 128 p fits, fits), ap (λ (k : List Bool). V6 k) (sym (same_again 128 p)))
plain_is RefusedWithMasks Ipv4 p fits = network_plain Ipv4 p fits
plain_is RefusedWithMasks Ipv6 p fits = network_plain Ipv6 p fits
plain_is ClearedWithMasks Ipv4 p fits =
    (host.V4 (first_host 32 p), host_plain Ipv4 (first_host 32 p) (length-first_of 32 p fits, fits), ap (λ (k : List Bool). V4 k) (sym (same_again 32 p)))
plain_is ClearedWithMasks Ipv6 p fits =
    (host.V6 (first_host 128 p), host_plain Ipv6 (first_host 128 p) (length-first_of 128 p fits, fits), ap (λ (k : List Bool). V6 k) (sym (same_again 128 p)))

pub one_by : (bits : HostBits) (text : List ℕ) (m n : IpCidr) → IsNetworkBy bits text m → IsNetworkBy bits text n → m ≡ n
one_by Refused text m n h k = one_ip_network text m n h k
one_by Cleared text m n (a, is, same) (b, also, other) = same ∙ (ap host_network (one_ip_host text a b is also) ∙ sym other)
one_by RefusedWithMasks text m n (inl h) (inl k) = one_ip_network text m n h k
one_by RefusedWithMasks text m n (inl h) (inr k) = absurd (no_mask_network text (host_at first_host n) m h k)
one_by RefusedWithMasks text m n (inr h) (inl k) = absurd (no_mask_network text (host_at first_host m) n k h)
one_by RefusedWithMasks text m n (inr h) (inr k) =
    sym (network_again m) ∙ (ap host_network (one_masked text (host_at first_host m) (host_at first_host n) h k) ∙ network_again n)
one_by ClearedWithMasks text m n (a, inl is, same) (b, inl also, other) = same ∙ (ap host_network (one_ip_host text a b is also) ∙ sym other)
one_by ClearedWithMasks text m n (a, inl is, same) (b, inr also, other) = absurd (no_mask_host text b a is also.0)
one_by ClearedWithMasks text m n (a, inr is, same) (b, inl also, other) = absurd (no_mask_host text a b also is.0)
one_by ClearedWithMasks text m n (a, inr is, same) (b, inr also, other) = same ∙ (ap host_network (one_masked text a b is.0 also.0) ∙ sym other)

-- ---- a line that is a network without a mask says that network alone
module _ (bits : HostBits) (text : List ℕ) (network : IpCidr) (short : ¬ (IsTooLong text)) (plain : IsNetworkBy (without_masks bits) text network) where
  is : IsNetworkBy bits text network
  is = with_masks bits text network plain

  line_says : LineSays bits text (network ∷ [])
  line_says = (short, text, Network network, is_field bits text network plain, is, refl)

  one_content : (content : Content) → IsContent bits text content → content ≡ Network network
  one_content Blank h = absurd (empty_network bits network (subst (λ (k : List ℕ). IsNetworkBy bits k network) h is))
  one_content (Network n) h = ap (λ (k : IpCidr). Network k) (one_by bits text n network h is)
  one_content (Ipv4Range first last) ((front, back, split, low, high), up) =
      absurd (not_lacking hyphen front back (subst (λ (k : List ℕ). Lacks hyphen k) split (no_hyphen bits text network plain)))
  one_content (Ipv6Range first last) ((front, back, split, low, high), up) =
      absurd (not_lacking hyphen front back (subst (λ (k : List ℕ). Lacks hyphen k) split (no_hyphen bits text network plain)))

  one_said : (said : List IpCidr) → LineSays bits text said → said ≡ network ∷ []
  one_said said (fits, field, content, trimmed, says, are) =
      let same = one_field bits text network plain field trimmed in
      let only = one_content content (subst (λ (k : List ℕ). IsContent bits k content) same says) in
      subst (λ (k : Content). AreOfContent k said) only are

-- ---- the empty line behind the last one
blank_says : (bits : HostBits) → LineSays bits [] []
blank_says bits = (
  λ long. omega (arith, long),
  [],
  Blank,
  (0, refl, (λ i below. absurd (omega (arith, below))), (λ some. absurd (omega (arith, some))), (λ i from within. absurd (omega (arith, within))), λ some. absurd (omega (arith, some))),
  refl,
  refl,
)

blank_content : (bits : HostBits) (content : Content) → IsContent bits [] content → content ≡ Blank
blank_content bits Blank h = refl
blank_content bits (Network n) h = absurd (empty_network bits n h)
blank_content bits (Ipv4Range first last) ((front, back, split, low, high), up) = absurd (cut_nothing front back hyphen split)
blank_content bits (Ipv6Range first last) ((front, back, split, low, high), up) = absurd (cut_nothing front back hyphen split)

blank_alone : (bits : HostBits) (said : List IpCidr) → LineSays bits [] said → said ≡ []
blank_alone bits said (fits, field, content, trimmed, says, are) =
    let same : field ≡ [] = one_trim [] field (λ i within. absurd (omega (arith, within))) trimmed in
    let only = blank_content bits content (subst (λ (k : List ℕ). IsContent bits k content) same says) in
    subst (λ (k : Content). AreOfContent k said) only are

-- ---- the lines of a text
kept_whole : (text : List ℕ) → ¬ (IsTooLong text) → kept_of text ≡ text
kept_whole text short = elim (cases_lt most_bytes (length text)) [
  | inl long ↦ absurd (short long)
  | inr fits ↦ take_all (most_bytes + 1) text (omega (arith, fits))
]

pub line_in_front : (text rest : List ℕ) → Lacks 10 text → ¬ (IsTooLong text) → lines_of (line text ++ rest) ≡ text ∷ lines_of rest
line_in_front text rest none short =
    let apart : All (λ x. is_line_feed x ≡ false) text =
    λ k d within. ap is_line_feed (get_or_default_zero text k d within) ∙ ne_eqb (slice_index text k) 10 (none k within) in
    ap lines_of (append_assoc text (10 ∷ []) rest)
    ∙ (ap (map kept_of) (slice_split_at is_line_feed text 10 rest apart refl) ∙ ap (λ (k : List ℕ). k ∷ lines_of rest) (kept_whole text short))

module _ (bits : HostBits) (family : Family) where
  -- those behind the first
  fit_behind : (p : List Bool) (ps : List (List Bool)) → AreNetworks (width_of family) (p ∷ ps) → AreNetworks (width_of family) ps
  fit_behind p ps fit q c = fit q (contains_later p q ps c)

  fit_first : (p : List Bool) (ps : List (List Bool)) → AreNetworks (width_of family) (p ∷ ps) → length p ≤ width_of family
  fit_first p ps fit = fit p (contains_first p ps)

  lines_in_front : (ps : List (List Bool)) (rest : List ℕ) → AreNetworks (width_of family) ps
      → lines_of (printed_networks family ps ++ rest) ≡ map (plain_text family) ps ++ lines_of rest
  lines_in_front [] rest fit = refl
  lines_in_front (p ∷ ps) rest fit =
      let fits = fit_first p ps fit in
      let text = plain_text family p in
      ap lines_of (append_assoc (line text) (printed_networks family ps) rest)
      ∙ (line_in_front text (printed_networks family ps ++ rest) (no_feed bits text (of_family family p) (plain_is bits family p fits)) (plain_not_long family p fits)
      ∙ ap (λ (k : List (List ℕ)). text ∷ k) (lines_in_front ps rest (fit_behind p ps fit)))

  abbrev each : List (List Bool) → List (List IpCidr)
  each ps = map (λ (p : List Bool). of_family family p ∷ []) ps

  says_in_front : (ps : List (List Bool)) (rest : List (List ℕ)) (said : List (List IpCidr)) → AreNetworks (width_of family) ps
      → AllZip (LineSays bits) rest said → AllZip (LineSays bits) (map (plain_text family) ps ++ rest) (each ps ++ said)
  says_in_front [] rest said fit h = h
  says_in_front (p ∷ ps) rest said fit h =
      let fits = fit_first p ps fit in
      let says = line_says bits (plain_text family p) (of_family family p) (plain_not_long family p fits) (plain_is bits family p fits) in
      (says, says_in_front ps rest said (fit_behind p ps fit) h)

  said_in_front : (ps : List (List Bool)) (rest : List (List ℕ)) (said : List (List IpCidr)) → AreNetworks (width_of family) ps
      → AllZip (LineSays bits) (map (plain_text family) ps ++ rest) said
      → (more : List (List IpCidr)) × (said ≡ each ps ++ more) × AllZip (LineSays bits) rest more
  said_in_front [] rest said fit h = (said, refl, h)
  said_in_front (p ∷ ps) rest [] fit h = absurd h
  said_in_front (p ∷ ps) rest (s ∷ said) fit h =
      let fits = fit_first p ps fit in
      let first = one_said bits (plain_text family p) (of_family family p) (plain_not_long family p fits) (plain_is bits family p fits) s h.0 in
      let (more, same, says) = said_in_front ps rest said (fit_behind p ps fit) h.1 in
      (more, ap₂ (λ (a : List IpCidr) (b : List (List IpCidr)). a ∷ b) first same, says)

-- ---- the networks of each family
own_v4 : (bits : HostBits) (ps : List (List Bool)) → networks_in Ipv4 (each bits Ipv4 ps) ≡ ps
own_v4 bits [] = refl
own_v4 bits (p ∷ ps) = ap (λ (k : List (List Bool)). p ∷ k) (own_v4 bits ps)

own_v6 : (bits : HostBits) (ps : List (List Bool)) → networks_in Ipv6 (each bits Ipv6 ps) ≡ ps
own_v6 bits [] = refl
own_v6 bits (p ∷ ps) = ap (λ (k : List (List Bool)). p ∷ k) (own_v6 bits ps)

none_v4 : (bits : HostBits) (ps : List (List Bool)) → networks_in Ipv4 (each bits Ipv6 ps) ≡ []
none_v4 bits [] = refl
none_v4 bits (p ∷ ps) = none_v4 bits ps

none_v6 : (bits : HostBits) (ps : List (List Bool)) → networks_in Ipv6 (each bits Ipv4 ps) ≡ []
none_v6 bits [] = refl
none_v6 bits (p ∷ ps) = none_v6 bits ps

-- ---- a printed set
module _ (bits : HostBits) (networks : Family → List (List Bool)) (fit : AreOfFamilies networks) where
  printed_lines : lines_of (printed_sets networks)
      ≡ map (plain_text Ipv4) (networks Ipv4) ++ (map (plain_text Ipv6) (networks Ipv6) ++ [] ∷ [])
  printed_lines =
      let last : lines_of (printed_networks Ipv6 (networks Ipv6)) ≡ map (plain_text Ipv6) (networks Ipv6) ++ [] ∷ [] =
      ap lines_of (sym (append-nil (printed_networks Ipv6 (networks Ipv6)))) ∙ lines_in_front bits Ipv6 (networks Ipv6) [] (fit Ipv6) in
      lines_in_front bits Ipv4 (networks Ipv4) (printed_networks Ipv6 (networks Ipv6)) (fit Ipv4)
      ∙ ap (λ (k : List (List ℕ)). map (plain_text Ipv4) (networks Ipv4) ++ k) last

  abbrev all_said : List (List IpCidr)
  all_said = each bits Ipv4 (networks Ipv4) ++ (each bits Ipv6 (networks Ipv6) ++ [] ∷ [])

  says_all : ListSays (text_by bits (printed_sets networks)) all_said
  says_all =
      subst (λ (k : List (List ℕ)). AllZip (LineSays bits) k all_said) (sym printed_lines)
      (says_in_front bits Ipv4 (networks Ipv4) (map (plain_text Ipv6) (networks Ipv6) ++ [] ∷ []) (each bits Ipv6 (networks Ipv6) ++ [] ∷ []) (fit Ipv4)
      (says_in_front bits Ipv6 (networks Ipv6) ([] ∷ []) ([] ∷ []) (fit Ipv6) (blank_says bits, tt)))

  last_alone : (more : List (List IpCidr)) → AllZip (LineSays bits) ([] ∷ []) more → more ≡ [] ∷ []
  last_alone [] h = absurd h
  last_alone (s ∷ []) h = ap (λ (k : List IpCidr). k ∷ []) (blank_alone bits s h.0)
  last_alone (s ∷ t ∷ more) h = absurd h.1

  says_alone : (said : List (List IpCidr)) → ListSays (text_by bits (printed_sets networks)) said → said ≡ all_said
  says_alone said says =
      let lines = subst (λ (k : List (List ℕ)). AllZip (LineSays bits) k said) printed_lines says in
      let (others, first, h) = said_in_front bits Ipv4 (networks Ipv4) (map (plain_text Ipv6) (networks Ipv6) ++ [] ∷ []) said (fit Ipv4) lines in
      let (more, second, last) = said_in_front bits Ipv6 (networks Ipv6) ([] ∷ []) others (fit Ipv6) h in
      first ∙ ap (λ (k : List (List IpCidr)). each bits Ipv4 (networks Ipv4) ++ k) (second ∙ ap (λ (k : List (List IpCidr)). each bits Ipv6 (networks Ipv6) ++ k) (last_alone more last))

  networks_all : (family : Family) → networks_in family all_said ≡ networks family
  networks_all Ipv4 =
      flat_map-append (line_networks Ipv4) (each bits Ipv4 (networks Ipv4)) (each bits Ipv6 (networks Ipv6) ++ [] ∷ [])
      ∙ (ap₂ (λ (a b : List (List Bool)). a ++ b) (own_v4 bits (networks Ipv4))
      (flat_map-append (line_networks Ipv4) (each bits Ipv6 (networks Ipv6)) ([] ∷ []) ∙ ap (λ (k : List (List Bool)). k ++ []) (none_v4 bits (networks Ipv6)))
      ∙ append-nil (networks Ipv4))
  networks_all Ipv6 =
      flat_map-append (line_networks Ipv6) (each bits Ipv4 (networks Ipv4)) (each bits Ipv6 (networks Ipv6) ++ [] ∷ [])
      ∙ (ap₂ (λ (a b : List (List Bool)). a ++ b) (none_v6 bits (networks Ipv4))
      (flat_map-append (line_networks Ipv6) (each bits Ipv6 (networks Ipv6)) ([] ∷ []) ∙ (append-nil (networks_in Ipv6 (each bits Ipv6 (networks Ipv6))) ∙ own_v6 bits (networks Ipv6))))

  pub printed_read : SaysJust (text_by bits (printed_sets networks)) networks
  printed_read = (
    (all_said, says_all),
    λ said says family. ap (networks_in family) (says_alone said says) ∙ networks_all family,
  )
