-- Parts that are written one behind the other are cut into these parts again.
use Rattle.std.proofs.Common.{◌≡◌, refl, ◌∙◌, ap, ap₂, arith, ℕ, ◌+◌, ◌%◌, List, [], ◌∷◌, ◌++◌, append_assoc, length, map, drop, take, replicate}
use Rattle.std.proofs.lemmas.List.{drop_at, length-append, length-replicate, take_at}
use Rattle.cidr_files.specs.Layout.{bytes_behind, padded, parts_by_size, padded_room}
use Rattle.cidr_files.specs.Written.{filled, free, joined_parts}

filled_up : (n : ℕ) → n + free n ≡ padded n
filled_up n = omega arith

-- a part with what is free behind it
pub length-filled : (part : List ℕ) → length (filled part) ≡ padded (length part)
unfolding filled
length-filled part =
    length-append part (replicate (free (length part)) 0) ∙ (ap (λ n. length part + n) (length-replicate (free (length part)) 0) ∙ filled_up (length part))

take-filled : (part rest : List ℕ) → take (length part) (filled part ++ rest) ≡ part
unfolding filled
take-filled part rest =
    let zeros = replicate (free (length part)) 0 in
    ap (take (length part)) (append_assoc part zeros rest) ∙ take_at part (zeros ++ rest) (length part) refl

drop-filled : (part rest : List ℕ) → drop (padded (length part)) (filled part ++ rest) ≡ rest
drop-filled part rest = drop_at (filled part) rest (padded (length part)) (length-filled part)

-- many, and what lies behind them
pub parts_of-joined : (parts : List (List ℕ)) (rest : List ℕ) → parts_by_size (map length parts) (joined_parts parts ++ rest) ≡ parts
parts_of-joined [] rest = refl
parts_of-joined (part ∷ parts) rest =
    ap (parts_by_size (map length (part ∷ parts))) (append_assoc (filled part) (joined_parts parts) rest)
    ∙ ap₂ ◌∷◌ (take-filled part (joined_parts parts ++ rest))
    (ap (parts_by_size (map length parts)) (drop-filled part (joined_parts parts ++ rest)) ∙ parts_of-joined parts rest)

pub behind-joined : (parts : List (List ℕ)) (rest : List ℕ) → bytes_behind (map length parts) (joined_parts parts ++ rest) ≡ rest
behind-joined [] rest = refl
behind-joined (part ∷ parts) rest =
    ap (bytes_behind (map length (part ∷ parts))) (append_assoc (filled part) (joined_parts parts) rest)
    ∙ (ap (bytes_behind (map length parts)) (drop-filled part (joined_parts parts ++ rest)) ∙ behind-joined parts rest)

pub length-joined : (parts : List (List ℕ)) → length (joined_parts parts) ≡ padded_room (map length parts)
length-joined [] = refl
length-joined (part ∷ parts) =
    length-append (filled part) (joined_parts parts) ∙ ap₂ (λ a b. a + b) (length-filled part) (length-joined parts)

-- ---- what is written at a multiple of 8
free_behind : (at size : ℕ) → at % 8 ≡ 0 → free (at + size) ≡ free size
free_behind at size m = omega arith

aligned_behind : (at size : ℕ) → at % 8 ≡ 0 → (at + padded size) % 8 ≡ 0
aligned_behind at size m = omega arith

pub filled_part : (old part mid new : List ℕ) → length old % 8 ≡ 0 → mid ≡ old ++ part → new ≡ mid ++ replicate (free (length mid)) 0
    → new ≡ old ++ filled part
unfolding filled
filled_part old part mid new aligned put zeros =
    let size : length mid ≡ length old + length part = ap length put ∙ length-append old part in
    let same : free (length mid) ≡ free (length part) = ap free size ∙ free_behind (length old) (length part) aligned in
    zeros ∙ (ap₂ (λ xs n. xs ++ replicate n 0) put same ∙ append_assoc old part (replicate (free (length part)) 0))

pub aligned_part : (old part new : List ℕ) → length old % 8 ≡ 0 → new ≡ old ++ filled part → length new % 8 ≡ 0
aligned_part old part new aligned put =
    let size : length new ≡ length old + padded (length part) = ap length put ∙ (length-append old (filled part) ∙ ap (λ n. length old + n) (length-filled part)) in
    ap (λ n. n % 8) size ∙ aligned_behind (length old) (length part) aligned

-- one part, and the others behind it
pub then_others : (old part others new last : List ℕ) → new ≡ old ++ part → last ≡ new ++ others → last ≡ old ++ (part ++ others)
then_others old part others new last here next = next ∙ (ap (λ xs. xs ++ others) here ∙ append_assoc old part others)
