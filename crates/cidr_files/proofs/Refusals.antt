-- Rows that are written, and why others are not.
use Rattle.std.proofs.Common.{subst, arith, ℕ, length}
use Rattle.cidr_lookup.specs.Keys.{key_networks}
use Rattle.cidr_lookup.proofs.Numbers.{length_networks}
use Rattle.cidr_lookup.specs.Tables.{IsLookupTable, IsTableRefused}
use Rattle.cidr_lookup.specs.declared.table.LookupTable.{LookupTable}
use Rattle.cidr_lookup.specs.declared.table.TableError.{TableError}
use Rattle.cidr_lookup.specs.declared.table.TableError.TheVariants.{TooMany, Refused, TooLarge, NoMemory}
use Rattle.cidr_files.specs.Contents.{AreRowsUnwritten, AreTableOf, AreValues, AreWritable}
use Rattle.cidr_files.specs.declared.contents.FileRows.{FileRows}
use Rattle.cidr_files.specs.declared.faults.WriteError.TheVariants.{Table}

pub writable : {W : Type 0} (w padding : ℕ) (steps : ℕ → ℕ) (value : W → ℕ) (rows : FileRows W) (table : LookupTable)
    → AreTableOf w padding steps value rows table → AreWritable w padding steps value rows
writable w padding steps value rows table h = record {
  few = h.keys;
  values = record { offsets = h.offsets; sizes = h.sizes };
  first = table.first.items;
  words = table.words.items;
  table = subst (λ (n : ℕ). IsLookupTable w padding n (key_networks value rows.keys.now) table.first.items table.words.items) h.own h.table_is;
  fits = h.nodes;
}

pub unwritten : {W : Type 0} (w padding : ℕ) (steps : ℕ → ℕ) (value : W → ℕ) (rows : FileRows W) (error : TableError) → AreValues rows
    → IsTableRefused w padding (steps (length rows.keys.now)) (key_networks value rows.keys.now) error → AreRowsUnwritten w padding steps value rows (Table error)
unwritten w padding steps value rows TooMany fine why = omega (arith, why, length_networks value rows.keys.now)
unwritten w padding steps value rows (Refused place) fine why = (fine, why)
unwritten w padding steps value rows TooLarge fine why = (fine, why)
unwritten w padding steps value rows NoMemory fine why = tt
