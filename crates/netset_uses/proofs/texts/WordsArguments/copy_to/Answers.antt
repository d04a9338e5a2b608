use Rattle.std.proofs.Common.{◌≡◌, sym, ◌∙◌, ap, refl, List, ℕ, ◌++◌, take, drop, length, Some}
use Rattle.std.specs.Option.{option_map}
use Rattle.std.proofs.lemmas.Option.{slice_get-map, slice_get_read}
use Rattle.std.proofs.Math.Seq.{take-append_seam}
use Rattle.netset_uses.proofs.texts.WordsArguments.copy_to.Goals as goal

front : (xs ys zs : List ℕ) → xs ≡ ys → take (length ys) (xs ++ zs) ≡ ys
front xs ys zs e = rw e (take-append_seam ys zs)

pub returns-clause-fills : goal.returns-clause-fills
returns-clause-fills c =
    let words = c.args.self.now.words.now in
    let bytes = c.as_bytes-bytes.result.now in
    let here = slice_get_read words (length words) c.args.place c.in-Some.word.now refl c.in-Some.ensures.lookup.3.0 c.in-Some.ensures.lookup.1 in
    let copied = front c.copy_from_slice.new.self bytes (drop (length bytes) c.args.buf.now) c.copy_from_slice.ensures.after in
    slice_get-map (λ w. w.now) words c.args.place
    ∙ (ap (option_map (λ w. w.now)) here ∙ ap Some (sym c.as_bytes-bytes.ensures.value ∙ sym copied))
