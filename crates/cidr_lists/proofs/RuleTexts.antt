-- An access list, read line by line from its bytes, and what its rules permit.
use Rattle.std.proofs.Common.{◌≡◌, ◌≢◌, refl, sym, ◌∙◌, ap, subst, inl, inr, arith, ℕ, suc, ◌+◌, ◌<◌, ◌≤◌, ◌==◌, Bool, true, List, [], ◌∷◌, ◌++◌, length, take, drop, map, append_assoc, length-append, Option, Result, Ok, Err}
use Rattle.std.specs.List.{AllZip, enumerate_from, flat_map, position_or_len}
use Rattle.std.specs.Result.{IfOk}
use Rattle.std.proofs.lemmas.List.{flat_map_more, length-drop, length-take, map-id}
use Rattle.std.proofs.lemmas.Bool.{ne_eqb, true≢false}
use Rattle.std.proofs.lemmas.Simd.{map-map}
use Rattle.cidr.specs.declared.cidr.combined.IpCidr.{IpCidr}
use Rattle.cidr.specs.declared.family.Family.{Family}
use Rattle.cidr_sets.specs.model.FirstRules.{IsPermitted}
use Rattle.cidr_sets.specs.model.Sets.{IsSetOf}
use Rattle.cidr_sets.specs.declared.access.Action.{Action}
use Rattle.cidr_sets.specs.declared.access.Rule.{Rule}
use Rattle.cidr_lists.specs.Fields.{IsNoNetworkField}
use Rattle.cidr_lists.specs.Lists.{is_line_feed, kept_of, lines_of, most_bytes, text_by}
use Rattle.cidr_lists.specs.Rules.{AddsRuleLine, ArePermitting, HasNoRule, HaveRules, IsActionText, IsBadRule, IsNoRule, IsRulesError, RuleFieldsSay, RuleSays, RulesGrow, plain_rule, rule_in, rules_in, rules_of}
use Rattle.cidr_lists.specs.declared.errors.LineError.{LineError}
use Rattle.cidr_lists.specs.declared.errors.LineError.TheVariants as error
use Rattle.cidr_lists.specs.declared.errors.ListError.{ListError}
use Rattle.cidr_lists.specs.declared.errors.ListError.TheVariants.{Line, NoMemory}
use Rattle.cidr_lists.specs.declared.lines.HostBits.{HostBits}
use Rattle.cidr_lists.specs.declared.rules.Rules.{Rules}
use Rattle.cidr_lists.specs.declared.rules.Ruling.{Ruling}
use Rattle.cidr_lists.proofs.WholeTexts.{cut_any, cut_first, cut_last, kept_short, zip_push}

-- ---- one line
-- nothing stands there
pub nothing_there : (field : List ℕ) (test : Bool) → test ≡ (length field == 0) → test ≡ true → field ≡ []
nothing_there [] test is holds = refl
nothing_there (b ∷ field) test is holds = absurd (true≢false (sym holds ∙ (is ∙ ne_eqb (length (b ∷ field)) 0 (λ e. omega (arith, e)))))

-- an action with no network behind it
pub no_network : (bits : HostBits) (first rest : List ℕ) (e : LineError) → IsActionText first → rest ≢ [] → IsNoNetworkField bits rest e → IsNoRule bits first rest e
no_network bits first rest error.TooLong is some bad = absurd bad
no_network bits first rest error.NoField is some bad = absurd bad
no_network bits first rest (error.NotUtf8 text) is some bad = (is, some, bad)
no_network bits first rest (error.NoNetwork text e) is some bad = (is, some, bad)
no_network bits first rest (error.NoAddress text e) is some bad = absurd bad
no_network bits first rest (error.Quoted text) is some bad = absurd bad
no_network bits first rest (error.NoLength text) is some bad = absurd bad
no_network bits first rest (error.NoCount text) is some bad = absurd bad
no_network bits first rest (error.NoType text) is some bad = absurd bad
no_network bits first rest (error.OtherType text) is some bad = absurd bad
no_network bits first rest (error.RangeRow text) is some bad = absurd bad
no_network bits first rest (error.NoAction text) is some bad = absurd bad
no_network bits first rest (error.TwoFamilies text) is some bad = absurd bad
no_network bits first rest (error.Reversed text) is some bad = absurd bad

-- as far as it is kept
pub long_rule : (bits : HostBits) (line : List ℕ) → most_bytes < length line → IsBadRule bits (kept_of line) error.TooLong
long_rule bits line long = inl (refl, omega (arith, long, length-take (most_bytes + 1) line))

pub short_no_rule : (bits : HostBits) (line : List ℕ) (e : LineError) → length line ≤ most_bytes → HasNoRule bits line e → IsBadRule bits (kept_of line) e
short_no_rule bits line e fits bad =
    subst (λ (k : List ℕ). IsBadRule bits k e) (sym (kept_short line fits)) (inr ((λ long. omega (arith, fits, long)), bad))

pub short_rule : (bits : HostBits) (line : List ℕ) (said : Option (IpCidr × Action)) → length line ≤ most_bytes → RuleFieldsSay bits line said
    → RuleSays bits (kept_of line) said
short_rule bits line said fits says =
    subst (λ (k : List ℕ). RuleSays bits k said) (sym (kept_short line fits)) ((λ long. omega (arith, fits, long)), says)

-- ---- lines with their numbers
zip_length : {X Y : Type 0} (R : X → Y → Type 0) (xs : List X) (ys : List Y) → AllZip R xs ys → length xs ≡ length ys
zip_length R [] [] h = refl
zip_length R [] (y ∷ ys) h = absurd h
zip_length R (x ∷ xs) [] h = absurd h
zip_length R (x ∷ xs) (y ∷ ys) h = ap suc (zip_length R xs ys h.1)

enumerate_push : {X : Type 0} (n : ℕ) (xs : List X) (x : X) (m : ℕ) → m ≡ n + length xs → enumerate_from n (xs ++ x ∷ []) ≡ enumerate_from n xs ++ (m, x) ∷ []
enumerate_push n [] x m is =
    let same : n ≡ m = omega (arith, is) in
    ap (λ (k : ℕ). (k, x) ∷ []) same
enumerate_push n (y ∷ ys) x m is = ap (λ (rest : List (ℕ × _)). (n, y) ∷ rest) (enumerate_push (n + 1) ys x m (omega (arith, is)))

one_rule_more : (family : Family) (said : List (Option (IpCidr × Action))) (one : Option (IpCidr × Action)) (number : ℕ) → number ≡ length said + 1
    → rules_in family said ++ rule_in family (number, one) ≡ rules_in family (said ++ one ∷ [])
one_rule_more family said one number is =
    flat_map_more (rule_in family) [] (enumerate_from 1 said) (number, one)
    ∙ ap (flat_map (rule_in family)) (sym (enumerate_push 1 said one number (omega (arith, is))))

-- ---- how far a list was read
module _ (bits : HostBits) (text : List ℕ) where
  -- the lines before these bytes were read, of which the first has this number
  pub record RulesUpTo (rest : List ℕ) (number : ℕ) (rules : Rules) : Type 0 where
    pub before : List (List ℕ)
    pub lines : lines_of text ≡ before ++ lines_of rest
    pub place : number ≡ length before + 1
    pub room : number + length rest ≤ length text + 1
    pub said : List (Option (IpCidr × Action))
    pub says : AllZip (RuleSays bits) before said
    pub have : (family : Family) → rules_of rules family ≡ rules_in family said

  pub no_rules : (rules : Rules) → ((family : Family) → rules_of rules family ≡ []) → RulesUpTo text 1 rules
  no_rules rules none = record {
    before = [];
    lines = refl;
    place = refl;
    room = omega arith;
    said = [];
    says = tt;
    have = none;
  }

  module _ (rest line : List ℕ) (n number : ℕ) (rules new : Rules) (is : n ≡ position_or_len is_line_feed rest) (cut : line ≡ take n rest)
      (up : RulesUpTo rest number rules) where
    more_rules : (one : Option (IpCidr × Action)) → RulesGrow rules new (λ family. rule_in family (number, one))
        → (family : Family) → rules_of new family ≡ rules_in family (up.said ++ one ∷ [])
    more_rules one grows family =
        grows family
        ∙ (ap (λ (k : List (List Bool × Ruling)). k ++ rule_in family (number, one)) (up.have family)
        ∙ one_rule_more family up.said one number (omega (arith, up.place, zip_length (RuleSays bits) up.before up.said up.says)))

    pub rule_read : (next : List ℕ) → n < length rest → drop (n + 1) rest ≡ next → AddsRuleLine bits (kept_of line) number rules new (Ok tt)
        → RulesUpTo next (number + 1) new
    rule_read next within behind (one, says, grows) =
        let kept = kept_of line in
        let first : lines_of rest ≡ kept ∷ lines_of (drop (n + 1) rest) =
        cut_first rest n is within ∙ ap (λ (k : List ℕ). kept_of k ∷ lines_of (drop (n + 1) rest)) (sym cut) in
        let lines : lines_of rest ≡ kept ∷ lines_of next = first ∙ ap (λ (k : List ℕ). kept ∷ lines_of k) behind in
        record {
          before = up.before ++ kept ∷ [];
          lines = up.lines ∙ (ap (λ (k : List (List ℕ)). up.before ++ k) lines ∙ sym (append_assoc up.before (kept ∷ []) (lines_of next)));
          place = omega (arith, up.place, length-append up.before (kept ∷ []));
          room = omega (arith, up.room, ap length behind, length-drop (n + 1) rest, within);
          said = up.said ++ one ∷ [];
          says = zip_push (RuleSays bits) up.before up.said kept one up.says says;
          have = more_rules one grows;
        }

    pub last_rule : n ≡ length rest → AddsRuleLine bits (kept_of line) number rules new (Ok tt) → HaveRules (text_by bits text) new
    last_rule all (one, says, grows) =
        let kept = kept_of line in
        let last : lines_of rest ≡ kept ∷ [] = cut_last rest n is all ∙ ap (λ (k : List ℕ). kept_of k ∷ []) (sym cut) in
        let lines : lines_of text ≡ up.before ++ kept ∷ [] = up.lines ∙ ap (λ (k : List (List ℕ)). up.before ++ k) last in (
          up.said ++ one ∷ [],
          subst (λ (k : List (List ℕ)). AllZip (RuleSays bits) k (up.said ++ one ∷ [])) (sym lines)
              (zip_push (RuleSays bits) up.before up.said kept one up.says says),
          more_rules one grows,
        )

    pub rule_in_error : (e : ListError) → n ≤ length rest → AddsRuleLine bits (kept_of line) number rules new (Err e) → IsRulesError (text_by bits text) e
    rule_in_error NoMemory fits h = tt
    rule_in_error (Line k e) fits h =
        let (after, first) = cut_any rest n is fits in
        record {
          before = up.before;
          line = kept_of line;
          after = after;
          lines = up.lines ∙ ap (λ (k : List (List ℕ)). up.before ++ k) (first ∙ ap (λ (k : List ℕ). kept_of k ∷ after) (sym cut));
          place = h.0 ∙ up.place;
          said = up.said;
          fine = up.says;
          fault = h.1;
        }

-- ---- what rules permit
pub plain_permits : {C S E : Type 0} (bits : C → List Bool) (view : S → List (List Bool)) (rules : List (C × Ruling)) (plain : List (Rule C)) (r : Result S E)
    → plain ≡ map plain_rule rules
    → IfOk r (λ set. IsSetOf 129 (IsPermitted (map (λ (k : Rule C). bits k.network) plain) (map (λ (k : Rule C). k.action) plain)) (view set))
    → IfOk r (λ set. IsSetOf 129 (IsPermitted (map (λ (k : C × Ruling). bits k.0) rules) (map (λ (k : C × Ruling). k.1.action) rules)) (view set))
plain_permits {C} bits view rules plain r is h =
    let networks : map (λ (k : Rule C). bits k.network) plain ≡ map (λ (k : C × Ruling). bits k.0) rules =
    ap (map (λ (k : Rule C). bits k.network)) is ∙ map-map (λ (k : Rule C). bits k.network) plain_rule rules in
    let actions : map (λ (k : Rule C). k.action) plain ≡ map (λ (k : C × Ruling). k.1.action) rules =
    ap (map (λ (k : Rule C). k.action)) is ∙ map-map (λ (k : Rule C). k.action) plain_rule rules in
    subst (λ (k : List (List Bool)). IfOk r (λ set. IsSetOf 129 (IsPermitted k (map (λ (k : C × Ruling). k.1.action) rules)) (view set))) networks
    (subst (λ (k : List Action). IfOk r (λ set. IsSetOf 129 (IsPermitted (map (λ (k : Rule C). bits k.network) plain) k) (view set))) actions h)

pub permitting_plain : (rules : List (List Bool × Ruling)) (set : List (List Bool)) → IsSetOf 129 (ArePermitting rules) (map (λ (x : List Bool). x) set)
    → IsSetOf 129 (ArePermitting rules) set
permitting_plain rules set h = rw (map-id set) at h
