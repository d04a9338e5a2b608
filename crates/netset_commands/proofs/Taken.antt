-- Networks that are collected up to a number, of which the last is held.
use Rattle.std.proofs.Common.{◌≡◌, ◌⊎◌, inl, inr, refl, sym, ◌∙◌, ap, ap₂, subst, arith, ℕ, ◌+◌, ◌-◌, ◌<◌, ◌≤◌, Bool, true, false, List, [], ◌∷◌, ◌++◌, length, length-append, take, drop, get_or, append_assoc, Option, Some, None, Result, Ok, Err, nat_lt, cond}
use Rattle.std.specs.List.{flat_map}
use Rattle.std.specs.Bool.{Decides}
use Rattle.std.specs.Option.{IfSome}
use Rattle.std.proofs.lemmas.Bool.{true≢false, ltb-true, ltb-false, lt-ltb, le-ltb}
use Rattle.std.proofs.lemmas.List.{append-nil, take-append-le, take_all, take_more, take-append-drop}
use Rattle.std.proofs.lemmas.List.Concat.{flat_map-append}
use Rattle.std.proofs.Math.Seq.{take-append-add}
use Rattle.cidr.specs.either.IpNetwork.{network_family, network_prefix}
use Rattle.cidr.specs.model.Network.{width_of}
use Rattle.cidr.specs.declared.cidr.combined.IpCidr.{IpCidr}
use Rattle.cidr.specs.declared.family.Family.{Family}
use Rattle.cidr_ext.specs.model.Subnets.{subnets_of}
use Rattle.cidr_io.proofs.Chains.{part_more}
use Rattle.cidr_io.proofs.Collected.{collected_more, none_collected}
use Rattle.cidr_io.specs.Collecting.{Collects}
use Rattle.cidr_io.specs.Writing.{State, Part}
use Rattle.cidr_io.specs.declared.sink.OutputFailed.{OutputFailed}
use Rattle.netset_commands.specs.Free.{TakesRows, all_before, inside_of, last_behind, less, pair_of, taken}

-- ---- the first of a list
short : {X : Type 0} (m : ℕ) (xs ys : List X) → m ≤ length xs → take m (xs ++ ys) ≡ take m xs ++ take (m - length xs) ys
short m xs ys h =
    let none : m - length xs ≡ 0 = omega (arith, h) in
    take-append-le m xs ys h ∙ (sym (append-nil (take m xs)) ∙ ap (λ (k : ℕ). take m xs ++ take k ys) (sym none))

long : {X : Type 0} (m : ℕ) (xs ys : List X) → length xs ≤ m → take m (xs ++ ys) ≡ take m xs ++ take (m - length xs) ys
long m xs ys h =
    let more : m ≡ length xs + (m - length xs) = omega (arith, h) in
    ap (λ (k : ℕ). take k (xs ++ ys)) more
    ∙ (take-append-add xs ys (m - length xs) ∙ ap (λ (k : List _). k ++ take (m - length xs) ys) (sym (take_all m xs h)))

take_by : {X : Type 0} (b : Bool) (m : ℕ) (xs ys : List X) → nat_lt m (length xs) ≡ b → take m (xs ++ ys) ≡ take m xs ++ take (m - length xs) ys
take_by true m xs ys is = short m xs ys (let h : m < length xs = ltb-true m (length xs) is in omega (arith, h))
take_by false m xs ys is = long m xs ys (ltb-false m (length xs) is)

pub taken_both : {X : Type 0} (most : Option ℕ) (xs ys : List X) → taken most (xs ++ ys) ≡ taken most xs ++ taken (less most (length xs)) ys
taken_both None xs ys = refl
taken_both (Some m) xs ys = take_by (nat_lt m (length xs)) m xs ys refl

pub less_both : (most : Option ℕ) (a b : ℕ) → less (less most a) b ≡ less most (a + b)
less_both None a b = refl
less_both (Some m) a b = ap (λ (k : ℕ). Some k) (let e : m - a - b ≡ m - (a + b) = omega arith in e)

pub less_none : (most : Option ℕ) → most ≡ less most 0
less_none None = refl
less_none (Some m) = ap (λ (k : ℕ). Some k) (let e : m ≡ m - 0 = omega arith in e)

-- where all are taken, there may always be one more
abbrev pub unlimited : Option ℕ
unlimited = None

pub always_more : (unlimited ≡ Some 0) → ⊥
always_more is = cc

-- so many are at most as many
abbrev pub Fits : Option ℕ → ℕ → Type 0
Fits most n = IfSome most (λ m. n ≤ m)

taken_whole : {X : Type 0} (most : Option ℕ) (xs : List X) → Fits most (length xs) → taken most xs ≡ xs
taken_whole None xs h = refl
taken_whole (Some m) xs h = take_all m xs h

none_more : {X : Type 0} (most : Option ℕ) (n : ℕ) (ys : List X) → Fits most n → less most n ≡ Some 0 → taken (less most n) ys ≡ []
none_more most n ys h is = ap (λ (k : Option ℕ). taken k ys) is

still_none : (most : Option ℕ) (n k : ℕ) → less most n ≡ Some 0 → less most (n + k) ≡ Some 0
still_none most n k is = sym (less_both most n k) ∙ ap (λ (o : Option ℕ). less o k) is ∙ ap (λ (j : ℕ). Some j) (let e : 0 - k ≡ 0 = omega arith in e)

one_more_fits : (most : Option ℕ) (n : ℕ) → Fits most n → ((less most n ≡ Some 0) → ⊥) → Fits most (n + 1)
one_more_fits None n h some = tt
one_more_fits (Some m) n h some = fits_by (nat_lt n m) refl
  where
    fits_by : (b : Bool) → nat_lt n m ≡ b → n + 1 ≤ m
    fits_by true is = let l : n < m = ltb-true n m is in omega (arith, l)
    fits_by false is =
        let l : m ≤ n = ltb-false n m is in
        absurd (some (ap (λ (k : ℕ). Some k) (let e : m - n ≡ 0 = omega (arith, l) in e)))

-- ---- what stands in front of networks, one after the other
pub taken_none : {X : Type 0} (most : Option ℕ) → taken {X = X} most [] ≡ []
taken_none None = refl
taken_none (Some m) = take_all m [] (omega arith)

pub behind-append : {X : Type 0} (last : Option X) (xs ys : List X) → last_behind last (xs ++ ys) ≡ last_behind (last_behind last xs) ys
behind-append last [] ys = refl
behind-append last (x ∷ xs) ys = behind-append (Some x) xs ys

module _ {X : Type 0} (f : Option X → List ℕ) where
  pub before-append : (last : Option X) (xs ys : List X) → all_before f last (xs ++ ys) ≡ all_before f last xs ++ all_before f (last_behind last xs) ys
  before-append last [] ys = refl
  before-append last (x ∷ xs) ys =
      ap (λ (k : List ℕ). f last ++ k) (before-append (Some x) xs ys)
      ∙ sym (append_assoc (f last) (all_before f (Some x) xs) (all_before f (last_behind (Some x) xs) ys))

  one_before : (last : Option X) (xs : List X) (x : X) → all_before f last xs ++ f (last_behind last xs) ≡ all_before f last (xs ++ x ∷ [])
  one_before last xs x =
      sym (before-append last xs (x ∷ []) ∙ ap (λ (k : List ℕ). all_before f last xs ++ k) (append-nil (f (last_behind last xs))))

fits_none : (most : Option ℕ) → Fits most 0
fits_none None = tt
fits_none (Some m) = omega arith

module _ {X : Type 0} (f : Option X → List ℕ) (first : Option X) where
  -- what stands in front of the first of them came behind a block, the last of these is held, and so many more may come
  pub record Taking (most now : Option ℕ) (held : Option X) (all left : List X) (s t : State) (block rest : List ℕ) : Type 0 where
    pub done : List X
    pub split : all ≡ done ++ left
    pub collected : Collects s t block rest (all_before f first done) (Ok tt)
    pub count : now ≡ less most (length done)
    pub fits : Fits most (length done)
    pub place : held ≡ last_behind first done

  pub taking_started : (most : Option ℕ) (all : List X) (s : State) (block : List ℕ) → Taking most most first all all s s block block
  taking_started most all s block =
      record { done = []; split = refl; collected = none_collected s block; count = less_none most; fits = fits_none most; place = refl }

  pub taking_on : (most now next : Option ℕ) (held : Option X) (all left rest : List X) (s t u : State) (b c d : List ℕ) (x : X) → left ≡ x ∷ rest
      → ((now ≡ Some 0) → ⊥) → next ≡ less now 1 → Taking most now held all left s t b c → Collects t u c d (f held) (Ok tt)
      → Taking most next (Some x) all rest s u b d
  taking_on most now next held all left rest s t u b c d x is some then g more =
      let size : length (g.done ++ x ∷ []) ≡ length g.done + 1 = length-append g.done (x ∷ []) in record {
        done = g.done ++ x ∷ [];
        split = g.split ∙ (ap (λ (k : List X). g.done ++ k) is ∙ sym (append_assoc g.done (x ∷ []) rest));
        collected = subst (λ (k : List ℕ). Collects s u b d k (Ok tt))
            (ap (λ (k : Option X). all_before f first g.done ++ f k) g.place ∙ one_before f first g.done x)
            (collected_more s t u b c d (all_before f first g.done) (f held) (Ok tt) g.collected more);
        count = then ∙ (ap (λ (k : Option ℕ). less k 1) g.count ∙ (less_both most (length g.done) 1 ∙ ap (λ (k : ℕ). less most k) (sym size)));
        fits = subst (Fits most) (sym size) (one_more_fits most (length g.done) g.fits (λ none. some (g.count ∙ none)));
        place = sym (behind-append first g.done (x ∷ []));
      }

  -- those that there may be, of those that are done and one more
  taken_front : (most : Option ℕ) (all done rest : List X) (x : X) → all ≡ done ++ x ∷ rest → Fits most (length (done ++ x ∷ []))
      → taken most all ≡ (done ++ x ∷ []) ++ taken (less most (length (done ++ x ∷ []))) rest
  taken_front most all done rest x is fits =
      ap (taken most) (is ∙ sym (append_assoc done (x ∷ []) rest))
      ∙ (taken_both most (done ++ x ∷ []) rest
      ∙ ap (λ (k : List X). k ++ taken (less most (length (done ++ x ∷ []))) rest) (taken_whole most (done ++ x ∷ []) fits))

  pub taking_lost : (most now : Option ℕ) (held : Option X) (all left rest : List X) (s t u : State) (b c d : List ℕ) (x : X) (e : OutputFailed)
      → left ≡ x ∷ rest → ((now ≡ Some 0) → ⊥) → Taking most now held all left s t b c → Part t u (c ++ f held)
      → Collects s u b d (all_before f first (taken most all)) (Err e)
  taking_lost most now held all left rest s t u b c d x e is some g part =
      let text : List ℕ = all_before f first (g.done ++ x ∷ []) in
      let front : Part s u (b ++ (all_before f first g.done ++ f held)) =
      collected_more s t u b c d (all_before f first g.done) (f held) (Err e) g.collected part in
      let here : all_before f first g.done ++ f held ≡ text =
      ap (λ (k : Option X). all_before f first g.done ++ f k) g.place ∙ one_before f first g.done x in
      let others : List X = taken (less most (length (g.done ++ x ∷ []))) rest in
      let behind : List ℕ = all_before f (last_behind first (g.done ++ x ∷ [])) others in
      let fits : Fits most (length (g.done ++ x ∷ [])) =
      subst (Fits most) (sym (length-append g.done (x ∷ []))) (one_more_fits most (length g.done) g.fits (λ none. some (g.count ∙ none))) in
      let all_of : taken most all ≡ (g.done ++ x ∷ []) ++ others = taken_front most all g.done rest x (g.split ∙ ap (λ (k : List X). g.done ++ k) is) fits in
      let whole : all_before f first (taken most all) ≡ text ++ behind =
      ap (all_before f first) all_of ∙ before-append f first (g.done ++ x ∷ []) others in
      let some_of : Part s u ((b ++ text) ++ behind) =
      part_more s u (b ++ text) behind (subst (λ (k : List ℕ). Part s u (b ++ k)) here front) in
      subst (λ (k : List ℕ). Part s u k) (append_assoc b text behind ∙ ap (λ (k : List ℕ). b ++ k) (sym whole)) some_of

  abbrev Took : Option ℕ → Option ℕ → Option X → List X → State → State → List ℕ → List ℕ → Type 0
  Took most now held all s t b c = Collects s t b c (all_before f first (taken most all)) (Ok tt)
      × (now ≡ less most (length all)) × (held ≡ last_behind first (taken most all))

  -- no more may come
  pub taking_done : (most now : Option ℕ) (held : Option X) (all left : List X) (s t : State) (b c : List ℕ) → now ≡ Some 0
      → Taking most now held all left s t b c → Took most now held all s t b c
  taking_done most now held all left s t b c none g =
      let is : less most (length g.done) ≡ Some 0 = sym g.count ∙ none in
      let all_of : taken most all ≡ g.done =
      ap (taken most) g.split ∙ (taken_both most g.done left
      ∙ (ap₂ (λ (j k : List X). j ++ k) (taken_whole most g.done g.fits) (none_more most (length g.done) left g.fits is) ∙ append-nil g.done)) in
      let size : length all ≡ length g.done + length left = ap length g.split ∙ length-append g.done left in (
        subst (λ (k : List X). Collects s t b c (all_before f first k) (Ok tt)) (sym all_of) g.collected,
        none ∙ sym (ap (λ (k : ℕ). less most k) size ∙ still_none most (length g.done) (length left) is),
        g.place ∙ ap (last_behind first) (sym all_of),
      )

  -- none are left
  pub taking_ended : (most now : Option ℕ) (held : Option X) (all left : List X) (s t : State) (b c : List ℕ) → left ≡ []
      → Taking most now held all left s t b c → Took most now held all s t b c
  taking_ended most now held all left s t b c none g =
      let is : all ≡ g.done = g.split ∙ (ap (λ (k : List X). g.done ++ k) none ∙ append-nil g.done) in
      let all_of : taken most all ≡ g.done = ap (taken most) is ∙ taken_whole most g.done g.fits in (
        subst (λ (k : List X). Collects s t b c (all_before f first k) (Ok tt)) (sym all_of) g.collected,
        g.count ∙ ap (λ (k : ℕ). less most k) (sym (ap length is)),
        g.place ∙ ap (last_behind first) (sym all_of),
      )

-- ---- more networks behind others
abbrev pub Walk : Type 0
Walk = List (Family × List Bool)

module _ (f : Option (Family × List Bool) → List ℕ) where
  both_before : (most left : Option ℕ) (first last : Option (Family × List Bool)) (xs ys : Walk) → left ≡ less most (length xs)
      → last ≡ last_behind first (taken most xs)
      → all_before f first (taken most xs) ++ all_before f last (taken left ys) ≡ all_before f first (taken most (xs ++ ys))
  both_before most left first last xs ys is stands =
      ap (λ (k : Option ℕ). all_before f first (taken most xs) ++ all_before f last (taken k ys)) is
      ∙ (ap (λ (k : Option (Family × List Bool)). all_before f first (taken most xs) ++ all_before f k (taken (less most (length xs)) ys)) stands
      ∙ (sym (before-append f first (taken most xs) (taken (less most (length xs)) ys)) ∙ ap (all_before f first) (sym (taken_both most xs ys))))

  both_behind : (most left : Option ℕ) (first last : Option (Family × List Bool)) (xs ys : Walk) → left ≡ less most (length xs)
      → last ≡ last_behind first (taken most xs) → last_behind last (taken left ys) ≡ last_behind first (taken most (xs ++ ys))
  both_behind most left first last xs ys is stands =
      ap (λ (k : Option ℕ). last_behind last (taken k ys)) is
      ∙ (ap (λ (k : Option (Family × List Bool)). last_behind k (taken (less most (length xs)) ys)) stands
      ∙ (sym (behind-append first (taken most xs) (taken (less most (length xs)) ys)) ∙ ap (last_behind first) (sym (taken_both most xs ys))))

  pub takes_more : (most left : Option ℕ) (first last : Option IpCidr) (xs ys : Walk) (s t u : State) (b c d : List ℕ)
      (r : Result (Option ℕ × Option IpCidr) OutputFailed) → TakesRows f most first xs s t b c (Ok (left, last)) → TakesRows f left last ys t u c d r
      → TakesRows f most first (xs ++ ys) s u b d r
  takes_more most left first last xs ys s t u b c d (Ok (next, final)) (front, is, stands) (more, then, ends) = (
    subst (λ (k : List ℕ). Collects s u b d k (Ok tt)) (both_before most left (pair_of first) (pair_of last) xs ys is stands)
        (collected_more s t u b c d (all_before f (pair_of first) (taken most xs)) (all_before f (pair_of last) (taken left ys)) (Ok tt) front more),
    then ∙ (ap (λ (k : Option ℕ). less k (length ys)) is ∙ (less_both most (length xs) (length ys) ∙ ap (λ (k : ℕ). less most k) (sym (length-append xs ys)))),
    ends ∙ both_behind most left (pair_of first) (pair_of last) xs ys is stands,
  )
  takes_more most left first last xs ys s t u b c d (Err e) (front, is, stands) part =
      subst (λ (k : List ℕ). Part s u (b ++ k)) (both_before most left (pair_of first) (pair_of last) xs ys is stands)
      (collected_more s t u b c d (all_before f (pair_of first) (taken most xs)) (all_before f (pair_of last) (taken left ys)) (Err e) front part)

  -- nothing behind what was lost
  pub takes_lost : (most : Option ℕ) (first : Option IpCidr) (xs ys : Walk) (s t : State) (b c d : List ℕ) (e : OutputFailed)
      → TakesRows f most first xs s t b c (Err e) → TakesRows f most first (xs ++ ys) s t b d (Err e)
  takes_lost most first xs ys s t b c d e part =
      let text : List ℕ = all_before f (pair_of first) (taken most xs) in
      let others : Walk = taken (less most (length xs)) ys in
      let behind : List ℕ = all_before f (last_behind (pair_of first) (taken most xs)) others in
      let whole : text ++ behind ≡ all_before f (pair_of first) (taken most (xs ++ ys)) =
      sym (before-append f (pair_of first) (taken most xs) others) ∙ ap (all_before f (pair_of first)) (sym (taken_both most xs ys)) in
      subst (λ (k : List ℕ). Part s t k) (append_assoc b text behind ∙ ap (λ (k : List ℕ). b ++ k) whole) (part_more s t (b ++ text) behind part)

  pub takes_none : (most : Option ℕ) (first : Option IpCidr) (s : State) (b : List ℕ) → TakesRows f most first [] s s b b (Ok (most, first))
  takes_none most first s b = (
    subst (λ (k : Walk). Collects s s b b (all_before f (pair_of first) k) (Ok tt)) (sym (taken_none most)) (none_collected s b),
    less_none most,
    ap (last_behind (pair_of first)) (sym (taken_none most)),
  )

-- the networks inside one that has them, or none
pub inside_some : (n : ℕ) (network : IpCidr) → length (network_prefix network) ≤ n → n ≤ width_of (network_family network)
    → inside_of n network ≡ subnets_of (network_family network) (network_prefix network) n
inside_some n network low high =
    ap (λ (b : Bool). cond b [] (cond (nat_lt (width_of (network_family network)) n) [] (subnets_of (network_family network) (network_prefix network) n)))
    (le-ltb n (length (network_prefix network)) low)
    ∙ ap (λ (b : Bool). cond b [] (subnets_of (network_family network) (network_prefix network) n)) (le-ltb (width_of (network_family network)) n high)

either_way : (b : Bool) (xs : Walk) → xs ≡ [] → cond b [] xs ≡ []
either_way true xs is = refl
either_way false xs is = is

pub inside_none : (n : ℕ) (network : IpCidr) → (n < length (network_prefix network)) ⊎ (width_of (network_family network) < n) → inside_of n network ≡ []
inside_none n network (inl low) =
    ap (λ (b : Bool). cond b [] (cond (nat_lt (width_of (network_family network)) n) [] (subnets_of (network_family network) (network_prefix network) n)))
    (lt-ltb n (length (network_prefix network)) low)
inside_none n network (inr high) =
    either_way (nat_lt n (length (network_prefix network))) (cond (nat_lt (width_of (network_family network)) n) [] (subnets_of (network_family network) (network_prefix network) n))
    (ap (λ (b : Bool). cond b [] (subnets_of (network_family network) (network_prefix network) n)) (lt-ltb (width_of (network_family network)) n high))

-- one network of a slice more
module _ (f : Option (Family × List Bool) → List ℕ) {C : Type 0} (of : C → Walk) (all : List C) (i : ℕ) (x : C) (within : i < length all) where
  walk_front : flat_map of (take (i + 1) all) ≡ flat_map of (take i all) ++ of (get_or all i x)
  walk_front =
      ap (flat_map of) (take_more all i x within)
      ∙ (flat_map-append of (take i all) (get_or all i x ∷ []) ∙ ap (λ (k : Walk). flat_map of (take i all) ++ k) (append-nil (of (get_or all i x))))

  walk_whole : flat_map of (take (i + 1) all) ++ flat_map of (drop (i + 1) all) ≡ flat_map of all
  walk_whole = sym (flat_map-append of (take (i + 1) all) (drop (i + 1) all)) ∙ ap (flat_map of) (take-append-drop (i + 1) all)

  pub each_taken : x ≡ get_or all i x → (most left next : Option ℕ) (first last final : Option IpCidr) (s t u : State) (b c d : List ℕ)
      → TakesRows f most first (flat_map of (take i all)) s t b c (Ok (left, last)) → TakesRows f left last (of x) t u c d (Ok (next, final))
      → TakesRows f most first (flat_map of (take (i + 1) all)) s u b d (Ok (next, final))
  each_taken is most left next first last final s t u b c d before more =
      subst (λ (k : Walk). TakesRows f most first k s u b d (Ok (next, final))) (ap (λ (y : C). flat_map of (take i all) ++ of y) is ∙ sym walk_front)
      (takes_more f most left first last (flat_map of (take i all)) (of x) s t u b c d (Ok (next, final)) before more)

  pub each_lost : x ≡ get_or all i x → (most left : Option ℕ) (first last : Option IpCidr) (e : OutputFailed) (s t u : State) (b c d : List ℕ)
      → TakesRows f most first (flat_map of (take i all)) s t b c (Ok (left, last)) → TakesRows f left last (of x) t u c d (Err e)
      → TakesRows f most first (flat_map of all) s u b d (Err e)
  each_lost is most left first last e s t u b c d before more =
      subst (λ (k : Walk). TakesRows f most first k s u b d (Err e)) walk_whole
      (takes_lost f most first (flat_map of (take (i + 1) all)) (flat_map of (drop (i + 1) all)) s u b d d e
      (subst (λ (k : Walk). TakesRows f most first k s u b d (Err e)) (ap (λ (y : C). flat_map of (take i all) ++ of y) is ∙ sym walk_front)
      (takes_more f most left first last (flat_map of (take i all)) (of x) s t u b c d (Err e) before more)))

-- more may come
pub not_done : (done : Bool) (left : Option ℕ) → Decides done (left ≡ Some 0) → done ≡ false → (left ≡ Some 0) → ⊥
not_done done left decides is none = true≢false (sym (decides.1 none) ∙ is)

pub takes_inside : (f : Option (Family × List Bool) → List ℕ) (most : Option ℕ) (first : Option IpCidr) (n : ℕ) (network : IpCidr) (subnets : Walk) (s t : State)
    (b d : List ℕ) (r : Result (Option ℕ × Option IpCidr) OutputFailed) → subnets ≡ subnets_of (network_family network) (network_prefix network) n
    → (length (network_prefix network) ≤ n) × (n ≤ width_of (network_family network)) → TakesRows f most first subnets s t b d r
    → TakesRows f most first (inside_of n network) s t b d r
takes_inside f most first n network subnets s t b d r are within takes =
    subst (λ (k : Walk). TakesRows f most first k s t b d r) (are ∙ sym (inside_some n network within.0 within.1)) takes

pub takes_outside : (f : Option (Family × List Bool) → List ℕ) (most : Option ℕ) (first : Option IpCidr) (n : ℕ) (network : IpCidr) (s : State) (b : List ℕ)
    → (n < length (network_prefix network)) ⊎ (width_of (network_family network) < n) → TakesRows f most first (inside_of n network) s s b b (Ok (most, first))
takes_outside f most first n network s b none =
    subst (λ (k : Walk). TakesRows f most first k s s b b (Ok (most, first))) (sym (inside_none n network none)) (takes_none f most first s b)

pub all_taken : (f : Option (Family × List Bool) → List ℕ) {C : Type 0} (of : C → Walk) (all : List C) (i : ℕ) → length all ≤ i → (most left : Option ℕ)
    (first last : Option IpCidr) (s t : State) (b c : List ℕ) → TakesRows f most first (flat_map of (take i all)) s t b c (Ok (left, last))
    → TakesRows f most first (flat_map of all) s t b c (Ok (left, last))
all_taken f {C} of all i past most left first last s t b c h =
    subst (λ (k : List C). TakesRows f most first (flat_map of k) s t b c (Ok (left, last))) (take_all i all past) h
