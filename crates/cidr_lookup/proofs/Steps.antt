-- The steps of the pass: a network is opened, or the last open one is closed.
use Rattle.std.proofs.Common.{◌≡◌, ◌≢◌, sym, ◌∙◌, ap, subst, arith, inl, inr, ℕ, ◌+◌, ◌-◌, ◌^◌, ◌<◌, ◌≤◌, List, length, get_or}
use Rattle.std.proofs.lemmas.Bool.{cases_eq, cases_lt}
use Rattle.std.proofs.lemmas.Nat.{pow_pos}
use Rattle.cidr_lookup.specs.Keys.{AreAscendingNetworks}
use Rattle.cidr_lookup.specs.Passing.{HasNumber, IsEdge, IsLastWithNumber, IsPassing, at, last_number_in}
use Rattle.cidr_lookup.proofs.Numbers.{ends_within, nests, no_earlier}

module _ (w : ℕ) (networks : List (ℕ × ℕ)) (good : AreAscendingNetworks w networks) where
  -- the later networks are all behind the address
  complete : (b address end : ℕ) → b ≤ length networks → IsLastWithNumber w networks b address end
      → ((j : ℕ) → b ≤ j → j < length networks → address < (at w networks j).0) → IsLastWithNumber w networks (length networks) address end
  complete b address end places known later = record {
    before = λ j l inside. elim (cases_lt j b) [
      | inl lt ↦ known.before j lt inside
      | inr le ↦ absurd (omega (arith, inside.0, later j le l))
    ];
    here = λ some. let h = known.here some in (omega (arith, h.0, places), h.1);
  }

  -- the networks from b on begin no earlier than b
  pub from_next : (b j : ℕ) → b ≤ j → j < length networks → (at w networks b).0 ≤ (at w networks j).0
  from_next b j le l = elim (cases_eq b j) [
    | inl e ↦ omega (arith, ap (λ i. (at w networks i).0) e)
    | inr n ↦ no_earlier (at w networks b) (at w networks j) (good.ascending b j (omega arith) l)
  ]

  -- what lies below the next network and in the last open one has the answer of that
  passed : (b start address : ℕ) (lasts ends : List ℕ) (depth : ℕ) → IsPassing w networks b start lasts ends depth
      → start ≤ address → address ≤ get_or lasts (depth - 1) 0
      → ((j : ℕ) → b ≤ j → j < length networks → address < (at w networks j).0)
      → IsLastWithNumber w networks (length networks) address (get_or ends (depth - 1) 0)
  passed b start address lasts ends depth g from to later =
      complete b address (get_or ends (depth - 1) 0) g.places
      (g.answers (depth - 1) address (omega (arith, g.some)) from to (λ l. absurd (omega (arith, g.some)))) later

  -- the last open network is closed
  pub closed : (b start last : ℕ) (lasts ends : List ℕ) (depth : ℕ) → IsPassing w networks b start lasts ends depth
      → 2 ≤ depth → last ≡ get_or lasts (depth - 1) 0 → last + 1 < 2 ^ w → (b < length networks → last < (at w networks b).0)
      → IsPassing w networks b (last + 1) lasts ends (depth - 1)
  closed b start last lasts ends depth g two is_last fits next = record {
    wide = g.wide;
    places = g.places;
    fits = fits;
    some = omega arith;
    widest = g.widest;
    nested = λ p q le l. g.nested p q le (omega arith);
    opened = λ p some l. g.opened p some (omega arith);
    answers = λ p address l from to above. elim (cases_eq (p + 1) (depth - 1)) [
      | inl e ↦ g.answers p address (omega arith) (omega (arith, g.reaching)) to (λ _. omega (arith, ap (λ i. get_or lasts i 0) e))
      | inr n ↦ g.answers p address (omega arith) (omega (arith, g.reaching)) to (λ _. above (omega arith))
    ];
    reaching = omega (arith, g.nested (depth - 1 - 1) (depth - 1) (omega arith) (omega arith));
    ahead = λ j le l. omega (arith, next (omega arith), from_next b j le l);
  }

  -- and the range that ends there has its answer
  pub closed_range : (b start last : ℕ) (lasts ends : List ℕ) (depth : ℕ) → IsPassing w networks b start lasts ends depth
      → last ≡ get_or lasts (depth - 1) 0 → (b < length networks → last < (at w networks b).0)
      → (address : ℕ) → start ≤ address → address < last + 1 → IsLastWithNumber w networks (length networks) address (get_or ends (depth - 1) 0)
  closed_range b start last lasts ends depth g is_last next address from to =
      passed b start address lasts ends depth g from (omega arith) (λ j le l. omega (arith, next (omega arith), from_next b j le l))

  module _ (b start : ℕ) (lasts ends : List ℕ) (depth : ℕ) (g : IsPassing w networks b start lasts ends depth)
      (some : b < length networks) (inside : (at w networks b).0 ≤ get_or lasts (depth - 1) 0) where
    -- the next network lies in the last open one, and is longer
    within_open : (last_number_in w (at w networks b) ≤ get_or lasts (depth - 1) 0) × (depth ≤ (at w networks b).1 + 1)
    within_open = elim (cases_lt 0 (depth - 1)) [
      | inl more ↦
          let o = g.opened (depth - 1) more (omega arith) in
          let e = get_or ends (depth - 1) 0 in
          let outer = at w networks (e - 1) in
          let before : e - 1 < b = omega (arith, o.some, o.upto) in
          let h = nests w outer (at w networks b) (good.each (e - 1) (omega arith)) (good.each b some) (good.ascending (e - 1) b before some) (omega (arith, o.last_is)) in
          (omega (arith, h.1, o.last_is), omega (arith, h.0, o.deep))
      | inr one ↦
          let z : depth - 1 ≡ 0 = omega arith in
          let top : get_or lasts (depth - 1) 0 ≡ 2 ^ w - 1 = ap (λ i. get_or lasts i 0) z ∙ g.widest in
          (omega (arith, top, ends_within w (at w networks b) (good.each b some), pow_pos w, pow_pos (w - (at w networks b).1)), omega (arith, g.some))
    ]

    pub room : depth ≤ w + 1
    room = omega (arith, within_open.1, (good.each b some).fits)

    -- the next network is opened
    pub opened : (last : ℕ) (lasts' ends' : List ℕ) → last ≡ last_number_in w (at w networks b)
        → ((p : ℕ) → p < depth → get_or lasts' p 0 ≡ get_or lasts p 0) → ((p : ℕ) → p < depth → get_or ends' p 0 ≡ get_or ends p 0)
        → get_or lasts' depth 0 ≡ last → get_or ends' depth 0 ≡ b + 1
        → IsPassing w networks (b + 1) (at w networks b).0 lasts' ends' (depth + 1)
    opened last lasts' ends' is_last same same_end new new_end =
        let positive : 0 < 2 ^ (w - (at w networks b).1) = pow_pos (w - (at w networks b).1) in
        let one_more : depth + 1 - 1 ≡ depth = omega arith in
        let start_le = g.ahead b (omega arith) some in
        record {
          wide = g.wide;
          places = omega arith;
          fits = (good.each b some).within;
          some = omega arith;
          widest = same 0 g.some ∙ g.widest;
          nested = λ p q le l. elim (cases_eq q depth) [
            | inl e ↦ elim (cases_eq p depth) [
              | inl e' ↦ omega (arith, ap (λ i. get_or lasts' i 0) e, ap (λ i. get_or lasts' i 0) e')
              | inr n ↦ omega (arith, ap (λ i. get_or lasts' i 0) e, new, within_open.0, same p (omega arith), g.nested p (depth - 1) (omega arith) (omega arith))
            ]
            | inr n ↦ omega (arith, same p (omega arith), same q (omega arith), g.nested p q le (omega arith))
          ];
          opened = λ p more l. elim (cases_eq p depth) [
            | inl e ↦
                let up : get_or ends' p 0 ≡ b + 1 = ap (λ i. get_or ends' i 0) e ∙ new_end in
                let at_b : get_or ends' p 0 - 1 ≡ b = omega arith in
                record {
                  some = omega arith;
                  upto = omega arith;
                  last_is = ap (λ i. get_or lasts' i 0) e ∙ (new ∙ (is_last ∙ sym (ap (λ i. last_number_in w (at w networks i)) at_b)));
                  deep = omega (arith, within_open.1, ap (λ i. (at w networks i).1) at_b);
                }
            | inr n ↦
                let o = g.opened p more (omega arith) in
                let up : get_or ends' p 0 ≡ get_or ends p 0 = same_end p (omega arith) in
                let at_same : get_or ends' p 0 - 1 ≡ get_or ends p 0 - 1 = omega arith in
                record {
                  some = omega (arith, o.some);
                  upto = omega (arith, o.upto);
                  last_is = same p (omega arith) ∙ (o.last_is ∙ sym (ap (λ i. last_number_in w (at w networks i)) at_same));
                  deep = omega (arith, o.deep, ap (λ i. (at w networks i).1) at_same);
                }
          ];
          answers = λ p address l from to above. elim (cases_eq p depth) [
            | inl e ↦
                let up : get_or ends' p 0 ≡ b + 1 = ap (λ i. get_or ends' i 0) e ∙ new_end in
                let at_b : get_or ends' p 0 - 1 ≡ b = omega arith in
                let here : HasNumber w networks (at w networks b) address = (from, omega (arith, ap (λ i. get_or lasts' i 0) e, new, is_last)) in
                record {
                  before = λ j lt h. omega arith;
                  here = λ _. (omega arith, subst (λ i. HasNumber w networks (at w networks i) address) (sym at_b) here);
                }
            | inr n ↦
                let behind : last < address = elim (cases_eq (p + 1) depth) [
                  | inl e ↦ omega (arith, above (omega arith), ap (λ i. get_or lasts' i 0) e, new)
                  | inr m ↦ omega (arith, above (omega arith), same (p + 1) (omega arith), g.nested (p + 1) (depth - 1) (omega arith) (omega arith), within_open.0)
                ] in
                let old = g.answers p address (omega arith) (omega arith) (omega (arith, same p (omega arith)))
                (λ h. omega (arith, above (omega arith), same (p + 1) h)) in
                let up : get_or ends' p 0 ≡ get_or ends p 0 = same_end p (omega arith) in
                record {
                  before = λ j lt h. elim (cases_eq j b) [
                    | inl e ↦ absurd (omega (arith, h.1, ap (λ i. last_number_in w (at w networks i)) e, is_last))
                    | inr m ↦ omega (arith, up, old.before j (omega arith) h)
                  ];
                  here = λ positive'.
                      let k = old.here (omega arith) in
                      (omega (arith, k.0), subst (λ i. HasNumber w networks (at w networks (i - 1)) address) (sym up) k.1);
                }
          ];
          reaching = omega (arith, ap (λ i. get_or lasts' i 0) one_more, new);
          ahead = λ j le l. from_next b j (omega arith) l;
        }

    -- and the range that ends there has the answer of the last open one
    pub opened_range : (address : ℕ) → start ≤ address → address < (at w networks b).0
        → IsLastWithNumber w networks (length networks) address (get_or ends (depth - 1) 0)
    opened_range address from to =
        passed b start address lasts ends depth g from (omega arith) (λ j le l. omega (arith, from_next b j le l))

  -- before the first network
  pub started : (lasts ends : List ℕ) → w ≤ 128 → get_or lasts 0 0 ≡ 2 ^ w - 1 → get_or ends 0 0 ≡ 0 → IsPassing w networks 0 0 lasts ends 1
  started lasts ends wide widest none = record {
    wide = wide;
    places = omega arith;
    fits = pow_pos w;
    some = omega arith;
    widest = widest;
    nested = λ p q le l. let e : p ≡ q = omega arith in omega (arith, ap (λ i. get_or lasts i 0) e);
    opened = λ p more l. absurd (omega arith);
    answers = λ p address l from to above.
        let z : p ≡ 0 = omega arith in
        let e : get_or ends p 0 ≡ 0 = ap (λ i. get_or ends i 0) z ∙ none in
        record { before = λ j lt h. absurd (omega arith); here = λ more. absurd (omega arith) };
    reaching = omega arith;
    ahead = λ j le l. omega arith;
  }

  -- where the last open network ends with the addresses, all behind the start have its answer
  pub ended : (b start : ℕ) (lasts ends : List ℕ) (depth : ℕ) → IsPassing w networks b start lasts ends depth
      → length networks ≤ b → 2 ^ w - 1 ≤ get_or lasts (depth - 1) 0
      → (address : ℕ) → start ≤ address → address < 2 ^ w → IsLastWithNumber w networks (length networks) address (get_or ends (depth - 1) 0)
  ended b start lasts ends depth g all most address from to =
      passed b start address lasts ends depth g from (omega arith) (λ j le l. absurd (omega arith))

  -- where a network begins, or has ended, the last one that has the address is another than before
  pub changed : (address end end' : ℕ) → 0 < address → IsEdge w networks address → IsLastWithNumber w networks (length networks) (address - 1) end
      → IsLastWithNumber w networks (length networks) address end' → end ≢ end'
  changed address end end' some edge before here = λ same.
      let j = edge.index in
      let before_at = subst (λ e. IsLastWithNumber w networks (length networks) (address - 1) e) same before in
      elim edge.edge [
        | inl first ↦
            let earlier : j < end' = here.before j edge.within (omega arith, omega arith) in
            let last = before_at.here (omega arith) in
            absurd (omega (arith, from_next j (end' - 1) (omega arith) (omega (arith, last.0)), last.1.0))
        | inr past ↦
            let earlier : j < end' = before_at.before j edge.within (omega arith, omega arith) in
            let last = here.here (omega arith) in
            let last_before = before_at.here (omega arith) in
            elim (cases_eq j (end' - 1)) [
              | inl e ↦ absurd (omega (arith, last.1.1, ap (λ i. last_number_in w (at w networks i)) e))
              | inr n ↦
                  let nested = nests w (at w networks j) (at w networks (end' - 1)) (good.each j edge.within) (good.each (end' - 1) (omega (arith, last.0)))
                  (good.ascending j (end' - 1) (omega arith) (omega (arith, last.0))) (omega (arith, last_before.1.0)) in
                  absurd (omega (arith, nested.1, last.1.1))
            ]
      ]

  -- a network is open where the last open one ends before the addresses
  pub two_open : (b start : ℕ) (lasts ends : List ℕ) (depth : ℕ) → IsPassing w networks b start lasts ends depth
      → get_or lasts (depth - 1) 0 ≢ get_or lasts 0 0 → 2 ≤ depth
  two_open b start lasts ends depth g other = elim (cases_lt 1 depth) [
    | inl lt ↦ omega arith
    | inr le ↦ let z : depth - 1 ≡ 0 = omega arith in absurd (other (ap (λ i. get_or lasts i 0) z))
  ]

  -- the pass goes on to such an address, where it closes the last open network
  pub closed_edge : (b start last : ℕ) (lasts ends : List ℕ) (depth : ℕ) → IsPassing w networks b start lasts ends depth
      → 2 ≤ depth → last ≡ get_or lasts (depth - 1) 0 → IsEdge w networks (last + 1)
  closed_edge b start last lasts ends depth g two is_last =
      let o = g.opened (depth - 1) (omega arith) (omega arith) in
      record { index = get_or ends (depth - 1) 0 - 1; within = omega (arith, o.some, o.upto, g.places); edge = inr (omega (arith, o.last_is)) }
