-- What a table becomes once a `&mut` to one of its values has ended.
use Rattle.std.specs.Prelude.{◌≡◌, ℕ, Bool, List, slice_set, Option, OnSome, IfSome}
use Rattle.std.specs.Borrow.{Fml, RattleType, MutBor, LendsSo}
use Rattle.std.specs.Map.{keys_of, values_of}
use Rattle.std.specs.declared.cmp.Ordering.{Ordering}
use Rattle.cidr_table.specs.model.FiniteMap.{StoredRows, IsInserted}
use Rattle.cidr_table.specs.model.Prefixes.{IsLongestRow}
use Rattle.cidr_table.specs.contracts.table.LpmTable.{the_row}

-- what a clause has as C.NetworkBits
abbrev pub KeyMembers : Type 0 → Type 0
KeyMembers C = record { partial_cmp : C → C → Option Ordering; eq : C → C → Bool; cmp : C → C → Ordering; bits : C → List Bool; room : C → ℕ }

module _ {C V : Type 0} where
  -- the table has this value under a key that it had: the other rows, the order of the keys and the room are as before
  pub record IsWrittenUnder (old : StoredRows C V) (key : C) (value : V) (new : StoredRows C V) : Type 0 where
    pub rows : IsInserted old.rows key value new.rows
    pub keys : keys_of new.rows ≡ keys_of old.rows
    pub capacity : new.capacity ≡ old.capacity

  -- the same under the longest key that begins the asked bits, which had the value `before`
  pub record IsWrittenInLongest (bits : C → List Bool) (asked : List Bool) (old : StoredRows C V) (before value : V) (new : StoredRows C V) : Type 0 where
    pub key : C
    pub longest : IsLongestRow bits asked old.rows (key, before)
    pub written : IsWrittenUnder old key value new

  -- the same in the row at an index, which there is
  pub record IsWrittenAt (old : StoredRows C V) (index : ℕ) (value : V) (new : StoredRows C V) : Type 0 where
    pub keys : keys_of new.rows ≡ keys_of old.rows
    pub values : values_of new.rows ≡ slice_set (values_of old.rows) index value
    pub capacity : new.capacity ≡ old.capacity

module _ (C V : RattleType) (key : KeyMembers C.Denot) where
  -- the table's type, as the logic holds it
  abbrev pub table_row : RattleType
  table_row = the_row C V (record { bits = key.bits; room = key.room }) (record { cmp = key.cmp }) (record { eq = key.eq }) (record { partial_cmp = key.partial_cmp })

  module _ (table : MutBor (StoredRows C.Denot V.Denot)) where
    -- the row at this index has the last value written through r, and at `None` the table stays as it is
    abbrev pub lends_row : ℕ → Option (MutBor V.Denot) → Fml
    lends_row index r = LendsSo table_row V table r (λ new value. OnSome r (IsWrittenAt table.now index value new)) (λ new. new ≡ table.now)

    -- the key has the last value written through r, and at `None` the table stays as it is
    abbrev pub lends_get : C.Denot → Option (MutBor V.Denot) → Fml
    lends_get asked r = LendsSo table_row V table r (λ new value. OnSome r (IsWrittenUnder table.now asked value new)) (λ new. new ≡ table.now)

    -- the row that a look-up gives has the last value written through r, and at `None` the table stays as it is
    abbrev pub lends_lookup : List Bool → Option (MutBor V.Denot) → Fml
    lends_lookup asked r =
        LendsSo table_row V table r (λ new value. IfSome r (λ lent. IsWrittenInLongest key.bits asked table.now lent.now value new)) (λ new. new ≡ table.now)
