-- Reading the arguments one after another.
use Rattle.std.proofs.Common.{◌≡◌, ◌∙◌, sym, subst, ℕ, suc, ◌+◌, ◌≤◌, List, [], ◌∷◌, ◌++◌, length, take, drop, map, Option, Some, None, String, IsUtf8, arith}
use Rattle.std.specs.List.{All, AllByRecursion}
use Rattle.std.specs.Option.{IfSome}
use Rattle.std.specs.String.{string_bytes}
use Rattle.std.proofs.Math.Seq.{split_at}
use Rattle.std.proofs.lemmas.List.{take_more, map-append}
use Rattle.std.proofs.lemmas.Option.{slice_get_within, get_or_from_slice_get}
use Rattle.std.proofs.lemmas.List.Elements.{All-from_recursion}
use Rattle.std.proofs.lemmas.Str.{IsUtf8-string_bytes}
use Rattle.cidr_io.specs.Arguments.{IsArgument, IsNotText}
use Rattle.cidr_io.specs.Shown.{byte_excerpt}

-- strings are UTF-8
each_utf8 : {Z : Type 0} (texts : List (String Z)) → AllByRecursion IsUtf8 (map string_bytes texts)
each_utf8 [] = tt
each_utf8 (text ∷ texts) = (IsUtf8-string_bytes text, each_utf8 texts)

-- an argument that is not UTF-8, after strings
pub not_text : {Z : Type 0} (told : Option (List (List ℕ))) (index : ℕ) (texts : List (String Z)) (bytes shown : List ℕ)
    → IfSome told (λ given. (index ≤ length given) × (map string_bytes texts ≡ take index given)) → IsArgument told index (Some bytes)
    → ¬ (IsUtf8 bytes) → shown ≡ byte_excerpt bytes → IsNotText told shown
not_text None index texts bytes shown before at bad is = tt
not_text (Some given) index texts bytes shown before at bad is = (
  take index given,
  drop (suc index) given,
  bytes,
  subst (λ argument. given ≡ take index given ++ argument ∷ drop (suc index) given) (get_or_from_slice_get given index bytes bytes at)
      (split_at given index bytes (slice_get_within given index bytes at)),
  subst (All IsUtf8) before.1 (All-from_recursion IsUtf8 (map string_bytes texts) (each_utf8 texts)),
  bad,
  is,
)

-- one more argument after those that were read
pub one_more : {S : Type 0} (bytes_of : S → List ℕ) (told : Option (List (List ℕ))) (index : ℕ) (texts : List S) (text : S) (bytes : List ℕ)
    → IfSome told (λ given. (index ≤ length given) × (map bytes_of texts ≡ take index given)) → IsArgument told index (Some bytes) → bytes_of text ≡ bytes
    → IfSome told (λ given. (index + 1 ≤ length given) × (map bytes_of (texts ++ text ∷ []) ≡ take (index + 1) given))
one_more bytes_of None index texts text bytes before at same = tt
one_more bytes_of (Some given) index texts text bytes before at same =
    let within = slice_get_within given index bytes at in
    (omega arith, map-append bytes_of texts (text ∷ []) ∙ (rw (before.1, same, ← get_or_from_slice_get given index bytes bytes at) (sym (take_more given index bytes within))))
