-- Which lines `match` picks and which addresses `look` takes, by the options.
use Rattle.std.specs.Prelude.{ℕ, ◌+◌, ◌^◌, ◌<◌, Bool, true, false, List, codes, Option, Some, None, Result, unwrap_or}
use Rattle.cidr.specs.declared.family.Family.{Family}
use Rattle.cidr_lists.specs.LookUps.{telling_by}
use Rattle.cidr_lists.specs.declared.columns.Column.{Column}
use Rattle.cidr_lists.specs.declared.columns.Separator.TheVariants.{WhiteSpace}
use Rattle.cidr_lists.specs.declared.errors.LineError.{LineError}
use Rattle.cidr_lists.specs.declared.fields.Asked.{Asked}
use Rattle.cidr_lists.specs.declared.fields.Asked.TheVariants.{First, Field, Anywhere}
use Rattle.cidr_lists.specs.declared.forms.RowForm.{RowForm}
use Rattle.netset_commands.specs.Matching.{Picks, has, written_of}
use Rattle.netset_commands.specs.Single.{IsNumber}
use Rattle.netset_commands.specs.declared.commands.picking.Picking.{Picking}
use Rattle.netset_commands.specs.declared.commands.picking.Seeking.{Seeking}

-- the number is the one of the field at this index, counted from 0
abbrev pub IsFieldPlace : List ℕ → ℕ → Type 0
IsFieldPlace number place = IsNumber number (place + 1) × (place + 1 < 2 ^ 64)

-- the first field, up to white space
abbrev pub first_column : Column
first_column = record { place = 0; separator = WhiteSpace }

-- the lines that `match` picks by these options: by the field of --field, or the first one
abbrev pub picking_of : List (List ℕ) → Option Column → Picking
picking_of options column = record { anywhere = has (codes "--any") options; column = unwrap_or column first_column; inverted = has (codes "-v") options; headed = has (codes "--header") options; written = written_of options }

-- whether a line is picked by the addresses that are in the list
abbrev pub PicksOf : Picking → (Family → List Bool → Type 0) → List ℕ → Result Bool LineError → Type 0
PicksOf picking IsIn = Picks picking.anywhere picking.column IsIn picking.inverted

-- the address that `look` takes of each line: that of the field of --field, or with --any the first anywhere, or that of the first field
abbrev pub asked_by : Bool → Option Column → Asked
asked_by any (Some column) = Field column
asked_by true None = Anywhere
asked_by false None = First

-- what it does by these options
abbrev pub seeking_of : List (List ℕ) → Option Column → RowForm → Seeking
seeking_of options column form = record { asked = asked_by (has (codes "--any") options) column; headed = has (codes "--header") options; telling = telling_by form.values (has (codes "--keep") options); form = form }
