-- What calls return and leave where C has room for it.
use Rattle.std.specs.Prelude.{◌≡◌, ◌≢◌, ◌⊎◌, ◌↔◌, ℕ, ◌<◌, ◌≤◌, List, ◌∷◌, ◌++◌, length, drop, suc, Option, Some, None, Result, Ok, Err, IsUtf8}
use Rattle.cidr_c.specs.model.Codes.{not_utf8, no_memory, no_such, no_value, wrapped, compact_code}
use Rattle.cidr.specs.declared.errors.CompactError.{CompactError}
use Rattle.cidr_c.specs.declared.values.CValue.{CValue}

-- reading a string: 0 and its value; 1, where it is not UTF-8; or the number of the first error. Where there is an error,
-- the value that was there stays
pub record IsRead {A E : Type 0} (Reads : List ℕ → Result A E → Type 0) (code_of : E → ℕ) (IsValue : CValue → Type 0)
    (value_in : CValue → A) (text : List ℕ) (old new : CValue) (code : ℕ) : Type 0 where
  pub value : code ≡ 0 → IsUtf8 text × IsValue new × Reads text (Ok (value_in new))
  pub utf8 : (code ≡ not_utf8) ↔ ¬ (IsUtf8 text)
  pub error : not_utf8 < code → (e : E) × (code ≡ code_of e) × Reads text (Err e)
  pub stays : code ≢ 0 → new ≡ old

-- printing a string: its length is returned, and where the room has more bytes than that, it is there with a 0 behind;
-- else the room stays as it was
pub record IsPrintedInto (text old new : List ℕ) (len : ℕ) : Type 0 where
  pub count : len ≡ length text
  pub fits : length text < length old → new ≡ text ++ (0 ∷ drop (suc (length text)) old)
  pub cut : length old ≤ length text → new ≡ old

-- the same for bytes, with no 0 behind
pub record IsWrittenInto (bytes old new : List ℕ) (len : ℕ) : Type 0 where
  pub count : len ≡ length bytes
  pub fits : length bytes ≤ length old → new ≡ bytes ++ drop (length bytes) old
  pub cut : length old < length bytes → new ≡ old

-- printing a value that the call does not take: 0 is returned, and the room stays as it was
abbrev pub IsUnprinted : List ℕ → List ℕ → ℕ → Type 0
IsUnprinted old new len = (len ≡ 0) × (new ≡ old)

-- making a value of another: 0 and the value; or the number of the error, and then the value that was there stays
pub record IsConverted {A : Type 0} (IsTaken : Type 0) (IsValue : CValue → Type 0) (value_in : CValue → A) (a : A)
    (old new : CValue) (code : ℕ) : Type 0 where
  pub made : IsTaken → (code ≡ 0) × IsValue new × (value_in new ≡ a)
  pub refused : ¬ IsTaken → (code ≡ no_value) × (new ≡ old)

-- stepping: the host that the step leads to, and 0 or the number of `wrapped`; or the number of the error
pub record IsStepped {A : Type 0} (IsTaken Wraps : Type 0) (IsValue : CValue → Type 0) (value_in : CValue → A) (a : A)
    (old new : CValue) (code : ℕ) : Type 0 where
  pub stepped : IsTaken → IsValue new × (value_in new ≡ a)
  pub inside : IsTaken → (code ≡ 0) ↔ ¬ Wraps
  pub wraps : IsTaken → (code ≡ wrapped) ↔ Wraps
  pub refused : ¬ IsTaken → (code ≡ no_value) × (new ≡ old)

-- reading bytes: 0, the value, and how many of the bytes are its; or the number of the first error, and then all stays
pub record IsReadBytes {A : Type 0} (Reads : List ℕ → Result (A × ℕ) CompactError → Type 0) (IsValue : CValue → Type 0)
    (value_in : CValue → A) (bytes : List ℕ) (old new : CValue) (used used_new code : ℕ) : Type 0 where
  pub value : code ≡ 0 → IsValue new × Reads bytes (Ok (value_in new, used_new))
  pub error : code ≢ 0 → (e : CompactError) × (code ≡ compact_code e) × Reads bytes (Err e)
  pub stays : code ≢ 0 → (new ≡ old) × (used_new ≡ used)

-- 1 for yes and 0 for no
abbrev pub IsYesOrNo : ℕ → Type 0 → Type 0
IsYesOrNo code Holds = (code ≤ 1) × ((code ≡ 1) ↔ Holds)

-- any value at all
abbrev pub IsAnyValue : {P : Type 0} → P → Type 0
IsAnyValue p = Unit {0}

-- making a value of others, of which there may be none: 0, and the value, of which Holds is true; or the number of the error,
-- of what the call does not take and then of none, and all is as it was
pub record IsSought {P A : Type 0} (IsTaken IsNone : Type 0) (IsValue : P → Type 0) (value_in : P → A) (Holds : A → Type 0)
    (old new : P) (code : ℕ) : Type 0 where
  pub found : code ≡ 0 → IsTaken × IsValue new × Holds (value_in new)
  pub none : code ≡ no_such → IsTaken × IsNone
  pub refused : code ≡ no_value → ¬ IsTaken
  pub codes : (code ≡ 0) ⊎ ((code ≡ no_such) ⊎ (code ≡ no_value))
  pub stays : code ≢ 0 → new ≡ old

-- the same of a call that allocates: where there is no memory, all is as it was
abbrev pub IsSoughtInMemory : {P A : Type 0} → Type 0 → Type 0 → (P → Type 0) → (P → A) → (A → Type 0) → P → P → ℕ → Type 0
IsSoughtInMemory IsTaken IsNone IsValue value_in Holds old new code =
    ((code ≡ no_memory) × (new ≡ old)) ⊎ IsSought IsTaken IsNone IsValue value_in Holds old new code

-- ---- what private functions promise each other
-- what a library's call found, where C has room for it
abbrev pub IsFoundOrNone : {P A : Type 0} → (P → Type 0) → (P → A) → Option A → P → P → ℕ → Type 0
IsFoundOrNone IsValue value_in (Some a) old new code = (code ≡ 0) × IsValue new × (value_in new ≡ a)
IsFoundOrNone IsValue value_in None old new code = (code ≡ no_such) × (new ≡ old)
