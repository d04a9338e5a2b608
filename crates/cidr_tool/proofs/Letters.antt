-- Words whose letters name ends.
use Rattle.std.proofs.Common.{◌≡◌, ℕ, ◌<◌, List, length, get_or, ap, ◌∙◌, arith}
use Rattle.std.proofs.lemmas.List.{get_or-map, length-map}
use Rattle.cidr.specs.declared.inet_iterator.driving.End.{End}
use Rattle.cidr.specs.declared.inet_iterator.driving.End.TheVariants.{Front}
use Rattle.cidr_tool.specs.Walking.{letter, NamesEnds}

-- a word with another letter names no ends
pub other_letter : (word : List ℕ) (i d : ℕ) → i < length word → ((end : End) → ¬ (get_or word i d ≡ letter end)) → (ends : List End) → ¬ (NamesEnds word ends)
other_letter word i d within other ends named =
    let n : length word ≡ length ends = ap length named.0 ∙ length-map ends letter in
    let lt : i < length ends = omega arith in
    other (get_or ends i Front) (ap (λ w. get_or w i d) named.0 ∙ get_or-map letter ends i Front d lt)
