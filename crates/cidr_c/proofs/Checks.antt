-- A table that was built is no wrong one, and why none is built.
use Rattle.std.proofs.Common.{◌≡◌, ◌⊎◌, ℕ, ◌++◌, List, drop, length, take, inl, inr, refl, ap, arith, ◌∙◌}
use Rattle.std.proofs.Math.Seq.{take-append_seam}
use Rattle.std.proofs.lemmas.Bool.{cases_eq}
use Rattle.cidr_lookup.specs.FaultLaws.{no_fault}
use Rattle.cidr_lookup.specs.Tables.{IsTableRefused}
use Rattle.cidr_lookup.specs.declared.table.TableError.{TableError}
use Rattle.cidr_lookup.specs.declared.table.TableError.TheVariants.{TooMany, Refused, TooLarge, NoMemory}
use Rattle.cidr_c.specs.model.Codes.{no_memory, no_room}
use Rattle.cidr_c.specs.model.Tables.{IsBuilt, IsChecked, table_error_code, words_fault_code}
use Rattle.cidr_c.specs.declared.tables.CTableSizes.{CTableSizes}

-- ---- what was built
-- what was put stands in the front
front : (words room room_new : List ℕ) (n : ℕ) → room_new ≡ words ++ drop (length words) room → n ≡ length words → take n room_new ≡ words
front words room room_new n is size = rw (is, size) (take-append_seam words (drop (length words) room))

pub accepted : (w padding : ℕ) (steps_of : ℕ → ℕ) (networks : List (ℕ × ℕ)) (first words first_new words_new : List ℕ) (sizes sizes_new : CTableSizes) (code : ℕ)
    → IsBuilt w padding steps_of networks first words first_new words_new sizes sizes_new 0
    → IsChecked w padding sizes_new.steps networks (take sizes_new.first first_new) (take sizes_new.words words_new) code → (code ≡ 0) ⊎ (code ≡ no_memory)
accepted w padding steps_of networks first words first_new words_new sizes sizes_new code built checked = elim (cases_eq code 0) [
  | inl fine ↦ inl fine
  | inr other ↦ elim (cases_eq code no_memory) [
    | inl refused ↦ inr refused
    | inr wrong ↦
        let (fault, told, is) = checked.fault other wrong in
        let (entries, nodes, table, put) = built.table (inl refl) in
        let few = built.few (inl refl) in
        let first_size = ap (λ (s : CTableSizes). s.first) put.sizes_are in
        let words_size = ap (λ (s : CTableSizes). s.words) put.sizes_are in
        let first_is = front entries first first_new sizes_new.first (put.put refl).0 first_size in
        let words_are = front nodes words words_new sizes_new.words (put.put refl).1 words_size in
        let steps = ap (λ (s : CTableSizes). s.steps) put.sizes_are in
        absurd (wrong (told ∙ ap words_fault_code (no_fault w padding sizes_new.steps networks (take sizes_new.first first_new) (take sizes_new.words words_new) fault
        (rw (steps, first_is, words_are) table) few.0 (rw first_is (omega (arith, few.1, first_size))) (rw words_are (omega (arith, few.2, words_size))) is)))
  ]
]

-- ---- why none is built
-- an error's code is none of a table
no_table_is : (error : TableError) → (table_error_code error ≡ 0) ⊎ (table_error_code error ≡ no_room) → ⊥
no_table_is TooMany e = elim e [ inl z ↦ omega (arith, z) | inr z ↦ omega (arith, z) ]
no_table_is (Refused index) e = elim e [ inl z ↦ omega (arith, z) | inr z ↦ omega (arith, z) ]
no_table_is TooLarge e = elim e [ inl z ↦ omega (arith, z) | inr z ↦ omega (arith, z) ]
no_table_is NoMemory e = elim e [ inl z ↦ omega (arith, z) | inr z ↦ omega (arith, z) ]

module _ (w padding : ℕ) (steps_of : ℕ → ℕ) (networks : List (ℕ × ℕ)) (first words : List ℕ) (sizes : CTableSizes) where
  pub refused_at : (index : ℕ) → IsTableRefused w padding (steps_of (length networks)) networks (Refused index)
      → IsBuilt w padding steps_of networks first words first words sizes
      (record { first = sizes.first; words = sizes.words; index = index; steps = sizes.steps }) (table_error_code (Refused index))
  refused_at index is = record {
    table = λ e. absurd (no_table_is (Refused index) e);
    few = λ e. absurd (no_table_is (Refused index) e);
    many = λ z. absurd (omega (arith, z));
    refused = λ _. (is.0, is.1, refl);
    codes = inr (inr (inr (inl refl)));
    stays = λ _. (refl, refl);
    sizes_stay = λ e. elim e [ inl z ↦ absurd (omega (arith, z)) | inr z ↦ absurd (omega (arith, z)) ];
  }

  pub not_built : (error : TableError) → ((index : ℕ) → error ≡ Refused index → ⊥)
      → IsTableRefused w padding (steps_of (length networks)) networks error
      → IsBuilt w padding steps_of networks first words first words sizes sizes (table_error_code error)
  not_built (Refused index) other is = absurd (other index refl)
  not_built TooMany other is = record {
    table = λ e. absurd (no_table_is TooMany e);
    few = λ e. absurd (no_table_is TooMany e);
    many = λ _. inl is;
    refused = λ z. absurd (omega (arith, z));
    codes = inr (inl refl);
    stays = λ _. (refl, refl);
    sizes_stay = λ _. refl;
  }
  not_built TooLarge other is = record {
    table = λ e. absurd (no_table_is TooLarge e);
    few = λ e. absurd (no_table_is TooLarge e);
    many = λ _. inr is;
    refused = λ z. absurd (omega (arith, z));
    codes = inr (inl refl);
    stays = λ _. (refl, refl);
    sizes_stay = λ _. refl;
  }
  not_built NoMemory other is = record {
    table = λ e. absurd (no_table_is NoMemory e);
    few = λ e. absurd (no_table_is NoMemory e);
    many = λ z. absurd (omega (arith, z));
    refused = λ z. absurd (omega (arith, z));
    codes = inr (inr (inl refl));
    stays = λ _. (refl, refl);
    sizes_stay = λ _. refl;
  }
