-- What calls at both ends of a walk give and leave, call by call.
use Rattle.std.proofs.Common.{◌≡◌, sym, ◌∙◌, ap, arith, ℕ, ◌+◌, ◌-◌, ◌<◌, ◌≤◌, List, [], ◌∷◌, ◌++◌, length, take, drop, get_or, set, map, Option, Some, None, option_map, append_assoc, length-take, length-drop, length-append, MatchOption, suc}
use Rattle.std.specs.List.{slice_get}
use Rattle.std.proofs.lemmas.List.{drop_more, take_more, same_from_push, get_or-drop, map_push, take_more_set}
use Rattle.std.proofs.lemmas.Option.{slice_get-get_or}
use Rattle.std.proofs.lemmas.Bool.Decides.{nat_tests}
use Rattle.cidr.specs.declared.inet_iterator.driving.End.{End}
use Rattle.cidr.specs.declared.inet_iterator.driving.End.TheVariants.{Front, Back}
use Rattle.cidr.specs.model.Walk.{answer_at, answers_after, answers_to, fronts, backs, without}

-- after some calls, with `rest` to come: what was given, and what is left of the items
pub record Driven {X : Type 0} (items : List X) (ends rest : List End) (given : List (Option X)) (left : List X) : Type 0 where
  pub f : ℕ
  pub b : ℕ
  pub fronts_so_far : fronts rest + f ≡ fronts ends
  pub backs_so_far : backs rest + b ≡ backs ends
  pub told : given ++ answers_after items f b rest ≡ answers_to items ends
  pub here : left ≡ without items f b

-- how many are left
length-without : {X : Type 0} (items : List X) (f b : ℕ) → length (without items f b) ≡ length items - f - b
length-without items f b = simp (length-take, length-drop) (omega arith)

-- what a call at the front gives, and what it leaves
pub front_answer : {X : Type 0} (items : List X) (f b : ℕ) (r : Option X) (left left' : List X) → left ≡ without items f b
    → MatchOption r ((left ≡ []) × (left' ≡ [])) (λ x. left ≡ x ∷ left') → (answer_at items f b Front ≡ r) × (left' ≡ without items (f + 1) b)
front_answer items f b None left left' e h =
    let n : length (without items f b) ≡ 0 = ap length (sym e ∙ h.0) in
    let m : length items ≤ f + b = omega (arith, length-without items f b) in
    let z : length items - (f + 1) - b ≡ 0 = omega arith in
    (grind (arith, nat_tests), rw z h.1)
front_answer items f b (Some x) left left' e h =
    let n : length (without items f b) ≡ suc (length left') = ap length (sym e ∙ h) in
    let m : f + b < length items = omega (arith, length-without items f b) in
    let z : length items - f - b ≡ suc (length items - (f + 1) - b) = omega arith in
    let lt : f < length items = omega arith in
    let d : drop f items ≡ get_or items f x ∷ drop (f + 1) items = drop_more items f x lt in
    let w : without items f b ≡ get_or items f x ∷ without items (f + 1) b = rw (z, d) in
    let k : get_or items f x ∷ without items (f + 1) b ≡ x ∷ left' = sym w ∙ sym e ∙ h in
    let s : slice_get items f ≡ Some (get_or items f x) = slice_get-get_or items f x lt in
    let y : get_or items f x ≡ x = cc in
    let l : left' ≡ without items (f + 1) b = cc in
    (grind (arith, nat_tests), l)

-- the same at the back
pub back_answer : {X : Type 0} (items : List X) (f b : ℕ) (r : Option X) (left left' : List X) → left ≡ without items f b
    → MatchOption r ((left ≡ []) × (left' ≡ [])) (λ x. left ≡ left' ++ x ∷ []) → (answer_at items f b Back ≡ r) × (left' ≡ without items f (b + 1))
back_answer items f b None left left' e h =
    let n : length (without items f b) ≡ 0 = ap length (sym e ∙ h.0) in
    let m : length items ≤ f + b = omega (arith, length-without items f b) in
    let z : length items - f - (b + 1) ≡ 0 = omega arith in
    (grind (arith, nat_tests), rw z h.1)
back_answer items f b (Some x) left left' e h =
    let n : length (without items f b) ≡ length (left' ++ x ∷ []) = ap length (sym e ∙ h) in
    let m : f + b < length items = omega (arith, length-without items f b, length-append left' (x ∷ [])) in
    let z : length items - f - b ≡ (length items - f - (b + 1)) + 1 = omega arith in
    let in_drop : length items - f - (b + 1) < length (drop f items) = simp length-drop (omega arith) in
    let t = take_more (drop f items) (length items - f - (b + 1)) x in_drop in
    let w : without items f b ≡ without items f (b + 1) ++ get_or (drop f items) (length items - f - (b + 1)) x ∷ [] = rw z t in
    let k = same_from_push left' (without items f (b + 1)) x (get_or (drop f items) (length items - f - (b + 1)) x) (sym h ∙ e ∙ w) in
    let at : f + (length items - f - (b + 1)) ≡ length items - 1 - b = omega arith in
    let y : x ≡ get_or items (length items - 1 - b) x = k.1 ∙ (get_or-drop f items (length items - f - (b + 1)) x ∙ ap (λ i. get_or items i x) at) in
    let s : slice_get items (length items - 1 - b) ≡ Some (get_or items (length items - 1 - b) x) = slice_get-get_or items (length items - 1 - b) x (omega arith) in
    let v : slice_get items (length items - 1 - b) ≡ Some x = cc in
    (grind (arith, nat_tests), k.0)

-- one more call at the front
front_given : {X : Type 0} (items : List X) (ends rest : List End) (given : List (Option X)) (left : List X) (r : Option X) (left' : List X)
    → Driven items ends (Front ∷ rest) given left → MatchOption r ((left ≡ []) × (left' ≡ [])) (λ x. left ≡ x ∷ left')
    → Driven items ends rest (given ++ r ∷ []) left'
front_given items ends rest given left r left' d h =
    let a = front_answer items d.f d.b r left left' d.here h in
    record {
      f = d.f + 1;
      b = d.b;
      fronts_so_far = omega (arith, d.fronts_so_far);
      backs_so_far = d.backs_so_far;
      told = append_assoc given (r ∷ []) (answers_after items (d.f + 1) d.b rest) ∙ rw a.0 at d.told;
      here = a.1;
    }

-- one more call at the back
back_given : {X : Type 0} (items : List X) (ends rest : List End) (given : List (Option X)) (left : List X) (r : Option X) (left' : List X)
    → Driven items ends (Back ∷ rest) given left → MatchOption r ((left ≡ []) × (left' ≡ [])) (λ x. left ≡ left' ++ x ∷ [])
    → Driven items ends rest (given ++ r ∷ []) left'
back_given items ends rest given left r left' d h =
    let a = back_answer items d.f d.b r left left' d.here h in
    record {
      f = d.f;
      b = d.b + 1;
      fronts_so_far = d.fronts_so_far;
      backs_so_far = omega (arith, d.backs_so_far);
      told = append_assoc given (r ∷ []) (answers_after items d.f (d.b + 1) rest) ∙ rw a.0 at d.told;
      here = a.1;
    }

viewed : {A X : Type 0} (view : A → X) (P : Type 0) (Q : X → Type 0) (r : Option A) → MatchOption r P (λ x. Q (view x)) → MatchOption (option_map view r) P Q
viewed view P Q None h = h
viewed view P Q (Some x) h = h

module _ {A X : Type 0} (view : A → X) (items : List X) (ends : List End) (i : ℕ) (answers : List (Option A)) (left : List X) (r : Option A)
    (left' : List X) (in_ends : i < length ends) (in_answers : i < length answers)
    (d : Driven items ends (drop i ends) (map (option_map view) (take i answers)) left) where
  written : map (option_map view) (take (i + 1) (set answers i r)) ≡ map (option_map view) (take i answers) ++ option_map view r ∷ []
  written = ap (map (option_map view)) (take_more_set answers i r in_answers) ∙ map_push (option_map view) (take i answers) r

  -- a turn of the loop that calls at the front
  pub front_turn : get_or ends i Front ≡ Front → MatchOption r ((left ≡ []) × (left' ≡ [])) (λ x. left ≡ view x ∷ left')
      → Driven items ends (drop (i + 1) ends) (map (option_map view) (take (i + 1) (set answers i r))) left'
  front_turn e h =
      let k : drop i ends ≡ Front ∷ drop (i + 1) ends = drop_more ends i Front in_ends ∙ ap (λ x. x ∷ drop (i + 1) ends) e in
      let seen = viewed view ((left ≡ []) × (left' ≡ [])) (λ x. left ≡ x ∷ left') r h in
      rw written (front_given items ends (drop (i + 1) ends) (map (option_map view) (take i answers)) left (option_map view r) left' (rw k at d) seen)

  -- a turn of the loop that calls at the back
  pub back_turn : get_or ends i Front ≡ Back → MatchOption r ((left ≡ []) × (left' ≡ [])) (λ x. left ≡ left' ++ view x ∷ [])
      → Driven items ends (drop (i + 1) ends) (map (option_map view) (take (i + 1) (set answers i r))) left'
  back_turn e h =
      let k : drop i ends ≡ Back ∷ drop (i + 1) ends = drop_more ends i Front in_ends ∙ ap (λ x. x ∷ drop (i + 1) ends) e in
      let seen = viewed view ((left ≡ []) × (left' ≡ [])) (λ x. left ≡ left' ++ x ∷ []) r h in
      rw written (back_given items ends (drop (i + 1) ends) (map (option_map view) (take i answers)) left (option_map view r) left' (rw k at d) seen)
