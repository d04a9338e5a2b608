-- Parts joined by dots, one after the other, whatever a part is.
use Rattle.std.proofs.Common.{◌≡◌, ◌≢◌, ℕ, ◌+◌, ◌*◌, ◌^◌, ◌<◌, ◌≤◌, List, [], ◌∷◌, ◌++◌, length, get_or, drop, refl, sym, ap, ◌∙◌, subst, arith, inl, inr, append-nil, append_assoc, length-append, ◌↔◌, Option, Some, None}
use Rattle.std.proofs.lemmas.List.{nil_from_length, append_cancel_left}
use Rattle.std.specs.Borrow.{Bor}
use Rattle.cidr.specs.texts.Ipv4Text.{IsJoined, dot}
use Rattle.std.proofs.lemmas.List.Elements.{All-nil, All-cons, All-head, All-tail, All-push}
use Rattle.std.specs.List.{All}
use Rattle.cidr.specs.internal.Reading.{StopsAtDot, IsFirstPart, NoPartFirst, TakesPart, WritesParts}
use Rattle.cidr.specs.internal.Joined.{JoinsParts, JoinsNone}
use Rattle.cidr.proofs.PartLaws.{writes-none, writes-push, writes-few}

-- the text joins exactly what these parts and then the rest join
pub record HasParts (Part : List ℕ → ℕ → Type 0) (text done rest : List ℕ) : Type 0 where
  pub all : (ns : List ℕ) → IsJoined Part text ns → (more : List ℕ) × (ns ≡ done ++ more) × IsJoined Part rest more
  pub back : (more : List ℕ) → IsJoined Part rest more → IsJoined Part text (done ++ more)

module _ (Part : List ℕ → ℕ → Type 0) where
  -- ---- a part that is the whole text
  pub whole_none : (text : List ℕ) → NoPartFirst Part text → (n : ℕ) → ¬ (Part text n)
  whole_none text none n h = none text n [] h (inl refl) (sym (append-nil text))

  pub whole_part : (text rest : List ℕ) (n : ℕ) → IsFirstPart Part text n rest → length rest ≡ 0 → Part text n
  whole_part text rest n f e = rw (f.spelled, nil_from_length rest e, append-nil f.front) f.part

  pub not_whole : (text rest : List ℕ) (n : ℕ) → IsFirstPart Part text n rest → 0 < length rest → (m : ℕ) → ¬ (Part text m)
  not_whole text rest n f pos m h =
      let same : [] ≡ rest = (f.only text m [] h (inl refl) (sym (append-nil text))).1 in
      omega (arith, ap length same)

  -- ---- a part and a dot
  first_none : (text : List ℕ) → NoPartFirst Part text → (n m : ℕ) (ns : List ℕ) → ¬ (IsJoined Part text (n ∷ m ∷ ns))
  first_none text none n m ns (front, back, split, part, more) = none front n (dot ∷ back) part (inr (back, refl)) split

  first_undotted : (text rest : List ℕ) (k : ℕ) → IsFirstPart Part text k rest → ((back : List ℕ) → rest ≢ dot ∷ back) → (n m : ℕ) (ns : List ℕ) → ¬ (IsJoined Part text (n ∷ m ∷ ns))
  first_undotted text rest k f none n m ns (front, back, split, part, more) =
      none back (sym (f.only front n (dot ∷ back) part (inr (back, refl)) split).1)

  first_taken : (text rest back : List ℕ) (k : ℕ) → IsFirstPart Part text k rest → rest ≡ dot ∷ back → (n m : ℕ) (ns : List ℕ)
      → IsJoined Part text (n ∷ m ∷ ns) ↔ ((n ≡ k) × IsJoined Part back (m ∷ ns))
  first_taken text rest back k f e n m ns = (
    λ (front, later, split, part, more).
        let only = f.only front n (dot ∷ later) part (inr (later, refl)) split in
        let same : later ≡ back = ap (drop 1) (only.1 ∙ e) in
        (only.0, subst (λ t. IsJoined Part t (m ∷ ns)) same more),
    λ (same, more). (f.front, back, f.spelled ∙ ap (λ t. f.front ++ t) e, subst (Part f.front) (sym same) f.part, more),
  )

  -- ---- what has been read, one part further
  pub no_parts : (text : List ℕ) → HasParts Part text [] text
  no_parts text = record { all = λ ns h. (ns, refl, h); back = λ more h. h }

  module _ (text done rest after : List ℕ) (k : ℕ) (p : HasParts Part text done rest) (f : IsFirstPart Part rest k after) where
    pub part_taken : (back : List ℕ) → after ≡ dot ∷ back → HasParts Part text (done ++ k ∷ []) back
    part_taken back e = record {
      all = λ ns h. let (more, same, joined) = p.all ns h in later ns more same joined;
      back = earlier;
    }
      where
        later : (ns more : List ℕ) → ns ≡ done ++ more → IsJoined Part rest more → (left : List ℕ) × (ns ≡ (done ++ k ∷ []) ++ left) × IsJoined Part back left
        later ns [] same h = absurd h
        later ns (n ∷ []) same h = absurd (not_whole rest after k f (omega (arith, ap length e)) n h)
        later ns (n ∷ m ∷ ms) same h =
            let (first, joined) = (first_taken rest after back k f e n m ms).0 h in
            (m ∷ ms, same ∙ ap (λ x. done ++ x ∷ m ∷ ms) first ∙ sym (append_assoc done (k ∷ []) (m ∷ ms)), joined)

        earlier : (left : List ℕ) → IsJoined Part back left → IsJoined Part text ((done ++ k ∷ []) ++ left)
        earlier [] h = absurd h
        earlier (m ∷ ms) h = rw append_assoc (p.back (k ∷ m ∷ ms) ((first_taken rest after back k f e k m ms).1 (refl, h)))

    -- the last part
    pub part_ends : length after ≡ 0 → IsJoined Part text (done ++ k ∷ []) × ((ns : List ℕ) → IsJoined Part text ns → ns ≡ done ++ k ∷ [])
    part_ends e = (p.back (k ∷ []) (whole_part rest after k f e), λ ns h. let (more, same, joined) = p.all ns h in same ∙ ap (λ t. done ++ t) (only more joined))
      where
        only : (more : List ℕ) → IsJoined Part rest more → more ≡ k ∷ []
        only [] h = absurd h
        only (n ∷ []) h = ap (λ x. x ∷ []) (f.only rest n [] h (inl refl) (sym (append-nil rest))).0
        only (n ∷ m ∷ ms) (front, back, split, part, joined) =
            let left = (f.only front n (dot ∷ back) part (inr (back, refl)) split).1 in
            absurd (omega (arith, ap length left))

    -- neither a dot nor the end comes after it
    pub part_stuck : 0 < length after → ((back : List ℕ) → after ≢ dot ∷ back) → (ns : List ℕ) → ¬ (IsJoined Part text ns)
    part_stuck pos none ns h = let (more, same, joined) = p.all ns h in refused more joined
      where
        refused : (more : List ℕ) → ¬ (IsJoined Part rest more)
        refused [] h = h
        refused (n ∷ []) h = not_whole rest after k f pos n h
        refused (n ∷ m ∷ ms) h = first_undotted rest after k f none n m ms h

  pub part_missing : (text done rest : List ℕ) → HasParts Part text done rest → NoPartFirst Part rest → (ns : List ℕ) → ¬ (IsJoined Part text ns)
  part_missing text done rest p none ns h = let (more, same, joined) = p.all ns h in refused more joined
    where
      refused : (more : List ℕ) → ¬ (IsJoined Part rest more)
      refused [] h = h
      refused (n ∷ []) h = whole_none rest none n h
      refused (n ∷ m ∷ ms) h = first_none rest none n m ms h

-- ---- what holds of each part
module _ (Part : List ℕ → ℕ → Type 0) (P : ℕ → Type 0) (each : (text : List ℕ) (n : ℕ) → Part text n → P n) where
  pub joined_octets : (text octets : List ℕ) (last : ℕ) → IsJoined Part text (octets ++ last ∷ []) → All P octets × P last
  joined_octets text [] last h = (All-nil P, each text last h)
  joined_octets text (o ∷ []) last (front, back, split, part, more) = (All-cons P o [] (each front o part) (All-nil P), each back last more)
  joined_octets text (o ∷ m ∷ octets) last (front, back, split, part, more) =
      let (later, end) = joined_octets back (m ∷ octets) last more in
      (All-cons P o (m ∷ octets) (each front o part) later, end)

pub joined_map : (Part Other : List ℕ → ℕ → Type 0) → ((text : List ℕ) (n : ℕ) → Part text n → Other text n) → (text ns : List ℕ) → IsJoined Part text ns → IsJoined Other text ns
joined_map Part Other each text [] h = h
joined_map Part Other each text (n ∷ []) h = each text n h
joined_map Part Other each text (n ∷ m ∷ ns) (front, back, split, part, more) = (front, back, split, each front n part, joined_map Part Other each back (m ∷ ns) more)

-- there is a last part
pub some_last : (Part : List ℕ → ℕ → Type 0) (text ns : List ℕ) → IsJoined Part text ns → (octets : List ℕ) × (last : ℕ) × (ns ≡ octets ++ last ∷ [])
some_last Part text [] h = absurd h
some_last Part text (n ∷ []) h = ([], n, refl)
some_last Part text (n ∷ m ∷ ns) (front, back, split, part, more) =
    let (octets, last, e) = some_last Part back (m ∷ ns) more in
    (n ∷ octets, last, ap (λ t. n ∷ t) e)

-- ---- parts that are spelled by what follows a prefix
-- where the text begins with this prefix, the one kind of part is the prefix and then the other kind
pub record IsPrefixed (Part Bare : List ℕ → ℕ → Type 0) (text lead bare : List ℕ) : Type 0 where
  pub split : text ≡ lead ++ bare
  pub put : (t more : List ℕ) (n : ℕ) → bare ≡ t ++ more → Bare t n → Part (lead ++ t) n
  pub cut : (t more : List ℕ) (n : ℕ) → text ≡ t ++ more → StopsAtDot more → Part t n → (u : List ℕ) × (t ≡ lead ++ u) × Bare u n

module _ (Part Bare : List ℕ → ℕ → Type 0) (text lead bare : List ℕ) (h : IsPrefixed Part Bare text lead bare) where
  after_lead : (u more : List ℕ) → text ≡ (lead ++ u) ++ more → bare ≡ u ++ more
  after_lead u more e = append_cancel_left lead bare (u ++ more) (sym h.split ∙ e ∙ append_assoc lead u more)

  pub takes_prefixed : (r : Option (ℕ × Bor (List ℕ))) → TakesPart Bare bare r → TakesPart Part text r
  takes_prefixed None none = λ t m more part stop e.
      let (u, a, b) = h.cut t more m e stop part in
      none u m more b stop (after_lead u more (e ∙ ap (λ s. s ++ more) a))
  takes_prefixed (Some x) f = record {
    front = lead ++ f.front;
    spelled = h.split ∙ ap (λ t. lead ++ t) f.spelled ∙ sym (append_assoc lead f.front x.1.now);
    part = h.put f.front x.1.now x.0 f.spelled f.part;
    only = λ t m more part stop e.
        let (u, a, b) = h.cut t more m e stop part in
        f.only u m more b stop (after_lead u more (e ∙ ap (λ s. s ++ more) a));
  }

-- ---- octets before the last number
-- these octets and dots have been read
pub record HasOctets (Part : List ℕ → ℕ → Type 0) (text rest : List ℕ) (front count : ℕ) : Type 0 where
  pub done : List ℕ
  pub many : length done ≡ count
  pub fit : All (λ octet. octet < 256) done
  pub number : WritesParts 8 done front
  pub parts : HasParts Part text done rest

-- an item before the last one
earlier_item : (P : ℕ → Type 0) (items done : List ℕ) (last k m : ℕ) (ms : List ℕ) → items ++ last ∷ [] ≡ (done ++ k ∷ []) ++ m ∷ ms → All P items → P k
earlier_item P [] done last k m ms e h = absurd (omega (arith, ap length e, length-append (done ++ k ∷ []) (m ∷ ms), length-append done (k ∷ [])))
earlier_item P (x ∷ items) [] last k m ms e h = subst P (ap (λ t. get_or t 0 0) e) (All-head P x items h)
earlier_item P (x ∷ items) (d ∷ done) last k m ms e h = earlier_item P items done last k m ms (ap (drop 1) e) (All-tail P x items h)

module _ (Part : List ℕ → ℕ → Type 0) (text : List ℕ) where
  pub no_octets : HasOctets Part text text 0 0
  no_octets = record { done = []; many = refl; fit = All-nil (λ octet. octet < 256); number = writes-none 8; parts = no_parts Part text }

  -- room for one more
  pub octets_fit : (rest : List ℕ) (front count : ℕ) → HasOctets Part text rest front count → count ≤ 3 → front < 2 ^ 24
  octets_fit rest front count h few = writes-few 8 h.done front 3 h.number (omega (arith, h.many))

  module _ (rest after : List ℕ) (front count k : ℕ) (h : HasOctets Part text rest front count) (f : IsFirstPart Part rest k after) where
    pub octet_taken : (back : List ℕ) → after ≡ dot ∷ back → k < 256 → HasOctets Part text back (front * 256 + k) (count + 1)
    octet_taken back e fits = record {
      done = h.done ++ k ∷ [];
      many = omega (arith, h.many, length-append h.done (k ∷ []));
      fit = All-push (λ octet. octet < 256) h.done k h.fit fits;
      number = writes-push 8 h.done front k h.number fits;
      parts = part_taken Part text h.done rest after k h.parts f back e;
    }

    pub octets_end : length after ≡ 0 → count ≤ 3 → JoinsParts Part text front count k
    octets_end e few =
        let (joined, only) = part_ends Part text h.done rest after k h.parts f e in
        record { octets = h.done; many = h.many; fit = (omega (arith, h.many), h.fit); number = h.number; joined = joined; only = only }

    pub octets_stuck : 0 < length after → ((back : List ℕ) → after ≢ dot ∷ back) → JoinsNone Part text
    octets_stuck pos none octets last fit = part_stuck Part text h.done rest after k h.parts f pos none (octets ++ last ∷ [])

    pub large_part : (back : List ℕ) → after ≡ dot ∷ back → 255 < k → JoinsNone Part text
    large_part back e large octets last fit joined =
        let (more, same, later) = (part_taken Part text h.done rest after k h.parts f back e).all (octets ++ last ∷ []) joined in
        refused more same later
      where
        refused : (more : List ℕ) → octets ++ last ∷ [] ≡ (h.done ++ k ∷ []) ++ more → ¬ (IsJoined Part back more)
        refused [] same later = later
        refused (m ∷ ms) same later =
            let small : k < 256 = earlier_item (λ octet. octet < 256) octets h.done last k m ms same fit.1 in
            omega arith

  pub octet_missing : (rest : List ℕ) (front count : ℕ) → HasOctets Part text rest front count → NoPartFirst Part rest → JoinsNone Part text
  octet_missing rest front count h none octets last fit = part_missing Part text h.done rest h.parts none (octets ++ last ∷ [])

  -- four octets and dots, and more after them
  pub five_parts : (rest : List ℕ) (front count : ℕ) → HasOctets Part text rest front count → 4 ≤ count → JoinsNone Part text
  five_parts rest front count h four octets last fit joined =
      let (more, same, later) = h.parts.all (octets ++ last ∷ []) joined in
      refused more same later
    where
      refused : (more : List ℕ) → octets ++ last ∷ [] ≡ h.done ++ more → ¬ (IsJoined Part rest more)
      refused [] same later = later
      refused (m ∷ ms) same later =
          omega (arith, fit.0, h.many, ap length same, length-append octets (last ∷ []), length-append h.done (m ∷ ms))
