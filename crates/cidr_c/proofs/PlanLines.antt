-- The lines of a plan that are read one after another, and the rows of what one says.
use Rattle.std.proofs.Common.{◌≡◌, ℕ, ◌+◌, ◌<◌, ◌≤◌, Bool, List, [], ◌∷◌, ◌++◌, get_or, length, map, take, drop, refl, sym, ap, ◌∙◌, arith, append_assoc, length-drop, length-take, subst}
use Rattle.std.specs.Prelude.{All}
use Rattle.std.specs.List.{position_or_len}
use Rattle.std.proofs.lemmas.List.{append-nil, map-append, take_all, take_more}
use Rattle.std.proofs.lemmas.List.Elements.{All-append}
use Rattle.std.proofs.lemmas.List.Splits.{slice_split_first, slice_split_none}
use Rattle.std.proofs.lemmas.List.Sums.{fails_before_first}
use Rattle.cidr.specs.declared.cidr.combined.IpCidr.{IpCidr}
use Rattle.cidr.specs.declared.cidr.combined.IpCidr.TheVariants.{V4, V6}
use Rattle.cidr.specs.declared.family.Family.TheVariants.{Ipv4, Ipv6}
use Rattle.cidr_lists.specs.Lists.{AreContentNetworks, is_line_feed, line_networks}
use Rattle.cidr_lists.specs.declared.lines.Content.{Content}
use Rattle.cidr_lists.specs.declared.lines.Content.TheVariants.{Blank, Network, Ipv4Range, Ipv6Range}
use Rattle.cidr_lists.specs.declared.lines.HostBits.{HostBits}
use Rattle.cidr_lists.specs.declared.lists.Lists.{Lists}
use Rattle.cidr_lists.specs.Reading.{Grows, listed}
use Rattle.cidr_c.specs.calls.Lines.{lines_between_feeds}
use Rattle.cidr_c.specs.calls.Plans.{AddsLine, AddsRows, AreOfPlan, IsPlanRow, LinesTell, ip_networks, plan_row}
use Rattle.cidr_c.specs.declared.plans.CPlanFault.{CPlanFault}
use Rattle.cidr_c.specs.declared.plans.CPlanRow.{CPlanRow}

-- what is told so far; what the lines that are left tell comes behind it
pub record ToldSoFar (bits : HostBits) (text rest : List ℕ) (number at : ℕ) (rows : List CPlanRow) (faults : List CPlanFault) : Type 0 where
  pub place : at + length rest ≡ length text
  pub counted : number ≤ at + 1
  pub are : All IsPlanRow rows
  pub and_then : (others : List (IpCidr × (ℕ × (ℕ × ℕ)))) (worse : List CPlanFault)
      → LinesTell bits number at (lines_between_feeds rest) others worse
      → LinesTell bits 1 0 (lines_between_feeds text) (map plan_row rows ++ others) (faults ++ worse)

pub no_rows : All IsPlanRow []
no_rows k d lt = absurd (omega (arith, lt))

none_at_all : (bits : HostBits) (text : List ℕ) → ToldSoFar bits text text 1 0 [] []
none_at_all bits text = record { place = omega arith; counted = omega arith; are = no_rows; and_then = λ others worse tell. tell }

pub none_told : (bits : HostBits) (text : List ℕ) (rows : List CPlanRow) (faults : List CPlanFault) → rows ≡ [] → faults ≡ []
    → ToldSoFar bits text text 1 0 rows faults
none_told bits text rows faults empty none =
    subst (λ (r : List CPlanRow). ToldSoFar bits text text 1 0 r faults) (sym empty)
    (subst (λ (f : List CPlanFault). ToldSoFar bits text text 1 0 [] f) (sym none) (none_at_all bits text))

joined : (rows own : List CPlanRow) (others : List (IpCidr × (ℕ × (ℕ × ℕ))))
    → map plan_row rows ++ (map plan_row own ++ others) ≡ map plan_row (rows ++ own) ++ others
joined rows own others =
    sym (append_assoc (map plan_row rows) (map plan_row own) others)
    ∙ ap (λ (t : List (IpCidr × (ℕ × (ℕ × ℕ)))). t ++ others) (sym (map-append plan_row rows own))

module _ (bits : HostBits) (text rest line : List ℕ) (n number at : ℕ) (rows new : List CPlanRow) (faults more : List CPlanFault)
    (is : n ≡ position_or_len is_line_feed rest) (cut : line ≡ take n rest) (so_far : ToldSoFar bits text rest number at rows faults)
    (adds : AddsLine bits number at line rows new faults more) where
  told_then : (others : List (IpCidr × (ℕ × (ℕ × ℕ)))) (worse : List CPlanFault)
      → LinesTell bits number at (lines_between_feeds rest) (map plan_row adds.own ++ others) (adds.bad ++ worse)
      → LinesTell bits 1 0 (lines_between_feeds text) (map plan_row new ++ others) (more ++ worse)
  told_then others worse tell =
      let all : LinesTell bits 1 0 (lines_between_feeds text) (map plan_row rows ++ (map plan_row adds.own ++ others)) (faults ++ (adds.bad ++ worse)) =
      so_far.and_then (map plan_row adds.own ++ others) (adds.bad ++ worse) tell in
      let same_rows : map plan_row rows ++ (map plan_row adds.own ++ others) ≡ map plan_row new ++ others =
      joined rows adds.own others ∙ ap (λ (r : List CPlanRow). map plan_row r ++ others) (sym adds.all) in
      let same_faults : faults ++ (adds.bad ++ worse) ≡ more ++ worse =
      sym (append_assoc faults adds.bad worse) ∙ ap (λ (f : List CPlanFault). f ++ worse) (sym adds.wrong) in
      subst (λ (r : List (IpCidr × (ℕ × (ℕ × ℕ)))). LinesTell bits 1 0 (lines_between_feeds text) r (more ++ worse)) same_rows
      (subst (λ (f : List CPlanFault). LinesTell bits 1 0 (lines_between_feeds text) (map plan_row rows ++ (map plan_row adds.own ++ others)) f) same_faults all)

  are_new : All IsPlanRow new
  are_new = subst (All IsPlanRow) (sym adds.all) (All-append IsPlanRow rows adds.own so_far.are adds.are)

  pub line_told : (next : List ℕ) → n < length rest → drop (n + 1) rest ≡ next
      → ToldSoFar bits text next (number + 1) (at + (length line + 1)) new more
  line_told next within behind =
      let split : lines_between_feeds rest ≡ line ∷ lines_between_feeds next =
      slice_split_first is_line_feed rest 0 (omega (arith, is, within))
      ∙ (ap (λ (k : ℕ). take k rest ∷ lines_between_feeds (drop (k + 1) rest)) (sym is)
      ∙ (ap (λ (l : List ℕ). l ∷ lines_between_feeds (drop (n + 1) rest)) (sym cut) ∙ ap (λ (b : List ℕ). line ∷ lines_between_feeds b) behind)) in
      let size : length line ≡ n = omega (arith, ap length cut, length-take n rest, within) in
      let left : length next + (n + 1) ≡ length rest = omega (arith, ap length behind, length-drop (n + 1) rest, within) in
      record {
        place = omega (arith, so_far.place, size, left);
        counted = omega (arith, so_far.counted);
        are = are_new;
        and_then = λ others worse tell.
            told_then others worse (subst (λ (ls : List (List ℕ)). LinesTell bits number at ls (map plan_row adds.own ++ others) (adds.bad ++ worse)) (sym split) (
              map plan_row adds.own,
              others,
              adds.bad,
              worse,
              refl,
              refl,
              adds.tells,
              subst (λ (k : ℕ). LinesTell bits (number + 1) k (lines_between_feeds next) others worse) (omega arith) tell,
            ));
      }

  pub last_told : n ≡ length rest → AreOfPlan bits text new more
  last_told all =
      let split : lines_between_feeds rest ≡ line ∷ [] =
      slice_split_none is_line_feed rest (λ k d within. fails_before_first is_line_feed rest k d (omega (arith, is, all, within)))
      ∙ ap (λ (l : List ℕ). l ∷ []) (sym (cut ∙ take_all n rest (omega (arith, all)))) in
      let told : LinesTell bits 1 0 (lines_between_feeds text) (map plan_row new ++ []) (more ++ []) =
      told_then [] [] (subst (λ (ls : List (List ℕ)). LinesTell bits number at ls (map plan_row adds.own ++ []) (adds.bad ++ [])) (sym split)
      (map plan_row adds.own, [], adds.bad, [], refl, refl, adds.tells, (refl, refl))) in
      record {
        networks = are_new;
        told = subst (λ (r : List (IpCidr × (ℕ × (ℕ × ℕ)))). LinesTell bits 1 0 (lines_between_feeds text) r more) (append-nil (map plan_row new))
            (subst (λ (f : List CPlanFault). LinesTell bits 1 0 (lines_between_feeds text) (map plan_row new ++ []) f) (append-nil more) told);
      }

-- ---- the networks of what a line says are all of one family
all_four : (ps : List (List Bool)) → line_networks Ipv4 (map (λ p. V4 p) ps) ≡ ps
all_four [] = refl
all_four (p ∷ ps) = ap (λ (t : List (List Bool)). p ∷ t) (all_four ps)

no_six : (ps : List (List Bool)) → line_networks Ipv6 (map (λ p. V4 p) ps) ≡ []
no_six [] = refl
no_six (p ∷ ps) = no_six ps

no_four : (ps : List (List Bool)) → line_networks Ipv4 (map (λ p. V6 p) ps) ≡ []
no_four [] = refl
no_four (p ∷ ps) = no_four ps

all_six : (ps : List (List Bool)) → line_networks Ipv6 (map (λ p. V6 p) ps) ≡ ps
all_six [] = refl
all_six (p ∷ ps) = ap (λ (t : List (List Bool)). p ∷ t) (all_six ps)

abbrev both_of : (four six : List (List Bool)) → List IpCidr
both_of four six = map (λ p. V4 p) four ++ map (λ p. V6 p) six

four_only : (ps : List (List Bool)) → both_of (line_networks Ipv4 (map (λ p. V4 p) ps)) (line_networks Ipv6 (map (λ p. V4 p) ps)) ≡ map (λ p. V4 p) ps
four_only ps =
    ap (λ (t : List (List Bool)). both_of t (line_networks Ipv6 (map (λ p. V4 p) ps))) (all_four ps)
    ∙ (ap (λ (t : List (List Bool)). both_of ps t) (no_six ps) ∙ append-nil (map (λ p. V4 p) ps))

six_only : (ps : List (List Bool)) → both_of (line_networks Ipv4 (map (λ p. V6 p) ps)) (line_networks Ipv6 (map (λ p. V6 p) ps)) ≡ map (λ p. V6 p) ps
six_only ps =
    ap (λ (t : List (List Bool)). both_of t (line_networks Ipv6 (map (λ p. V6 p) ps))) (no_four ps)
    ∙ ap (λ (t : List (List Bool)). both_of [] t) (all_six ps)

one_family : (content : Content) (said : List IpCidr) → AreContentNetworks content said
    → both_of (line_networks Ipv4 said) (line_networks Ipv6 said) ≡ said
one_family Blank said is = subst (λ (t : List IpCidr). both_of (line_networks Ipv4 t) (line_networks Ipv6 t) ≡ t) (sym is) refl
one_family (Network (V4 p)) said is = subst (λ (t : List IpCidr). both_of (line_networks Ipv4 t) (line_networks Ipv6 t) ≡ t) (sym is) refl
one_family (Network (V6 p)) said is = subst (λ (t : List IpCidr). both_of (line_networks Ipv4 t) (line_networks Ipv6 t) ≡ t) (sym is) refl
one_family (Ipv4Range first last) said (networks, set, is) =
    subst (λ (t : List IpCidr). both_of (line_networks Ipv4 t) (line_networks Ipv6 t) ≡ t) (sym is) (four_only networks)
one_family (Ipv6Range first last) said (networks, set, is) =
    subst (λ (t : List IpCidr). both_of (line_networks Ipv4 t) (line_networks Ipv6 t) ≡ t) (sym is) (six_only networks)

-- what the lists have that were empty before
pub listed_said : (content : Content) (said : List IpCidr) (old lists : Lists) → old.v4.items ≡ [] → old.v6.items ≡ []
    → AreContentNetworks content said → Grows old lists (λ family. line_networks family said) → ip_networks (listed lists) ≡ said
listed_said content said old lists no_v4 no_v6 is grows =
    let four : lists.v4.items ≡ line_networks Ipv4 said = grows Ipv4 ∙ ap (λ (t : List (List Bool)). t ++ line_networks Ipv4 said) no_v4 in
    let six : lists.v6.items ≡ line_networks Ipv6 said = grows Ipv6 ∙ ap (λ (t : List (List Bool)). t ++ line_networks Ipv6 said) no_v6 in
    ap (λ (t : List (List Bool)). both_of t lists.v6.items) four
    ∙ (ap (λ (t : List (List Bool)). both_of (line_networks Ipv4 said) t) six ∙ one_family content said is)

-- ---- rows that are added
pub adds_none : (rows : List CPlanRow) (place : ℕ × (ℕ × ℕ)) → AddsRows rows rows [] place
adds_none rows place = record { own = []; all = sym (append-nil rows); are = no_rows; rows = refl }

-- one after others
pub adds_more : (old mid new : List CPlanRow) (some more : List IpCidr) (place : ℕ × (ℕ × ℕ)) → AddsRows old mid some place
    → AddsRows mid new more place → AddsRows old new (some ++ more) place
adds_more old mid new some more place a b =
    let with : IpCidr → IpCidr × (ℕ × (ℕ × ℕ)) = λ network. (network, place) in
    record {
      own = a.own ++ b.own;
      all = b.all ∙ (ap (λ (t : List CPlanRow). t ++ b.own) a.all ∙ append_assoc old a.own b.own);
      are = All-append IsPlanRow a.own b.own a.are b.are;
      rows = map-append plan_row a.own b.own
          ∙ (ap (λ (t : List (IpCidr × (ℕ × (ℕ × ℕ)))). t ++ map plan_row b.own) a.rows
          ∙ (ap (λ (t : List (IpCidr × (ℕ × (ℕ × ℕ)))). map with some ++ t) b.rows ∙ sym (map-append with some more)));
    }

-- one more of those of a family
pub one_more : (made : List Bool → IpCidr) (front : List IpCidr) (ps : List (List Bool)) (i : ℕ) (d : List Bool) → i < length ps
    → (front ++ map made (take i ps)) ++ made (get_or ps i d) ∷ [] ≡ front ++ map made (take (i + 1) ps)
one_more made front ps i d within =
    append_assoc front (map made (take i ps)) (made (get_or ps i d) ∷ [])
    ∙ ap (λ (t : List IpCidr). front ++ t) (sym (ap (map made) (take_more ps i d within) ∙ map-append made (take i ps) (get_or ps i d ∷ [])))
