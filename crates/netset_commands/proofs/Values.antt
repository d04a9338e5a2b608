-- The values of options, and the styles that they tell.
use Rattle.std.proofs.Common.{◌≡◌, refl, sym, ◌∙◌, ap, arith, ℕ, ◌+◌, ◌<◌, ◌≤◌, List, [], ◌∷◌, length, drop, get_or, Bor, codes, Option, Some, None, Result, Ok, Err, ok_or}
use Rattle.std.proofs.lemmas.List.{drop_more, length-drop}
use Rattle.cidr_lists.specs.Formats.{Style, bare, format_name, format_of, formats}
use Rattle.cidr_lists.specs.declared.formats.Format.{Format}
use Rattle.cidr_lists.specs.declared.formats.Format.TheVariants as format
use Rattle.netset_commands.specs.Arguments.{and_then, chosen_style, lists_request, made_request, misuse_text, style_of, taken_value, value_behind, option_value}
use Rattle.netset_commands.specs.Commands.{Styled, NotIn}
use Rattle.netset_commands.specs.Table.{name_of, texts}
use Rattle.netset_commands.specs.declared.commands.operations.Operation.{Operation}
use Rattle.netset_commands.specs.declared.commands.operations.Operation.TheVariants.{Not}
use Rattle.netset_commands.specs.declared.commands.table.Verb.{Verb}
use Rattle.netset_commands.specs.declared.commands.table.Verb.TheVariants as verb
use Rattle.netset_commands.specs.declared.errors.Misfit.TheVariants.{NoFormat}

-- ---- the value of an option
module _ (command : Verb) (name : List ℕ) (all left : List (Bor (List ℕ))) (found : Option (List ℕ))
    (h : option_value command name (texts all) ≡ value_behind command name found (texts left)) where
  module _ (option : Bor (List ℕ)) (behind : List (Bor (List ℕ))) (is : left ≡ option ∷ behind) where
    module _ (value : Bor (List ℕ)) (rest : List (Bor (List ℕ))) (more : behind ≡ value ∷ rest) where
      step : option_value command name (texts all)
          ≡ and_then (taken_value command name found option.now value.now) (λ now. value_behind command name now (texts rest))
      step =
          h ∙ (ap (λ (k : List (Bor (List ℕ))). value_behind command name found (texts k)) is
          ∙ ap (λ (k : List (Bor (List ℕ))). value_behind command name found (texts (option ∷ k))) more)

      step_taken : (now : Option (List ℕ)) → taken_value command name found option.now value.now ≡ Ok now
          → option_value command name (texts all) ≡ value_behind command name now (texts rest)
      step_taken now made =
          step ∙ ap (λ (r : Result (Option (List ℕ)) (List ℕ)). and_then r (λ now. value_behind command name now (texts rest))) made

      step_refused : (line : List ℕ) → taken_value command name found option.now value.now ≡ Err line → option_value command name (texts all) ≡ Err line
      step_refused line made =
          step ∙ ap (λ (r : Result (Option (List ℕ)) (List ℕ)). and_then r (λ now. value_behind command name now (texts rest))) made

-- an option without a value says nothing
ending : (command : Verb) (name : List ℕ) (found : Option (List ℕ)) (left : List (Bor (List ℕ))) → length left ≤ 1
    → value_behind command name found (texts left) ≡ Ok found
ending command name found [] few = refl
ending command name found (option ∷ []) few = refl
ending command name found (option ∷ value ∷ rest) few = absurd (omega (arith, few))

-- the same by indices
module _ (command : Verb) (name : List ℕ) (all : List (Bor (List ℕ))) (at : ℕ) (found : Option (List ℕ))
    (h : option_value command name (texts all) ≡ value_behind command name found (texts (drop at all))) where
  pub at_end : length all ≤ at + 1 → option_value command name (texts all) ≡ Ok found
  at_end past = h ∙ ending command name found (drop at all) (omega (arith, length-drop at all, past))

  module _ (within : at + 1 < length all) (d e : Bor (List ℕ)) where
    later : (now : Option (List ℕ)) → value_behind command name now (texts (drop (at + 1 + 1) all)) ≡ value_behind command name now (texts (drop (at + 2) all))
    later now = ap (λ (i : ℕ). value_behind command name now (texts (drop i all))) (omega arith)

    pub at_taken : (now : Option (List ℕ)) → taken_value command name found (get_or all at d).now (get_or all (at + 1) e).now ≡ Ok now
        → option_value command name (texts all) ≡ value_behind command name now (texts (drop (at + 2) all))
    at_taken now made =
        step_taken command name all (drop at all) found h (get_or all at d) (drop (at + 1) all) (drop_more all at d (omega (arith, within)))
        (get_or all (at + 1) e) (drop (at + 1 + 1) all) (drop_more all (at + 1) e within) now made
        ∙ later now

    pub at_refused : (line : List ℕ) → taken_value command name found (get_or all at d).now (get_or all (at + 1) e).now ≡ Err line
        → option_value command name (texts all) ≡ Err line
    at_refused line made =
        step_refused command name all (drop at all) found h (get_or all at d) (drop (at + 1) all) (drop_more all at d (omega (arith, within)))
        (get_or all (at + 1) e) (drop (at + 1 + 1) all) (drop_more all (at + 1) e within) line made

-- ---- a format
pub named_found : (f : Format) → format_of (format_name f) ≡ Some f
unfolding formats
named_found format.Plain = refl
named_found format.Json = refl
named_found format.Nft = refl
named_found format.Ipset = refl
named_found format.Iptables = refl
named_found format.Cisco = refl
named_found format.Juniper = refl
named_found format.Bird = refl

bare_style : (command : Verb) (f : Format) → style_of command f None None ≡ Ok (bare f)
bare_style command format.Plain = refl
bare_style command format.Json = refl
bare_style command format.Nft = refl
bare_style command format.Ipset = refl
bare_style command format.Iptables = refl
bare_style command format.Cisco = refl
bare_style command format.Juniper = refl
bare_style command format.Bird = refl

-- the style of a format's name
pub style_found : (command : Verb) (style : Style) → style ≡ bare style.format → chosen_style command (Some (format_name style.format)) None None ≡ Ok (Some style)
style_found command style plain =
    let line = misuse_text (format_name style.format) NoFormat (name_of command) in
    ap (λ (k : Option Format). and_then (ok_or k line) (λ f. and_then (style_of command f None None) (λ s. Ok (Some s)))) (named_found style.format)
    ∙ (ap (λ (r : Result Style (List ℕ)). and_then r (λ s. Ok (Some s))) (bare_style command style.format)
    ∙ ap (λ (k : Style). Ok (Some k)) (sym plain))

-- an operation with a format
pub styled_request : (operation : Operation) (style : Style) (files : List (List ℕ)) → style ≡ bare style.format
    → lists_request operation (codes "--format" ∷ format_name style.format ∷ []) files ≡ Ok (Styled style operation files)
styled_request operation style files plain =
    ap (λ (r : Result (Option Style) (List ℕ)). and_then r (λ chosen. Ok (made_request operation None chosen files))) (style_found (verb.Lists operation) style plain)

-- not inside a network with a format
pub inside_request : (style : Style) (net : List ℕ) (files : List (List ℕ)) → style ≡ bare style.format
    → lists_request Not (codes "--in" ∷ net ∷ codes "--format" ∷ format_name style.format ∷ []) files ≡ Ok (NotIn (Some style) net files)
inside_request style net files plain =
    ap (λ (r : Result (Option Style) (List ℕ)). and_then r (λ chosen. Ok (made_request Not (Some net) chosen files))) (style_found (verb.Lists Not) style plain)
