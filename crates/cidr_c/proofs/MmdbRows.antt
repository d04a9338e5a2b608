-- The next row of a MaxMind DB file, as C has it.
use Rattle.std.proofs.Common.{◌≡◌, refl, sym, ap₂, subst, arith, ℕ, ◌^◌, List, inl, inr}
use Rattle.cidr.specs.either.IpNetwork.{specific}
use Rattle.cidr_mmdb.specs.LookUps.{looked_up}
use Rattle.cidr_mmdb.specs.Rows.{IsNextRow, IsPassed, begin_behind}
use Rattle.cidr_mmdb.specs.declared.database.Database.{Database}
use Rattle.cidr_mmdb.specs.declared.rows.Row.{Row}
use Rattle.cidr_c.specs.model.Mmdb.{IsMmdbNext, IsMmdbOf, IsMmdbRow, found_in, most_passed, row_in}
use Rattle.cidr_c.specs.model.Values.{IsNetworkValue, ip_network_in, network_in}
use Rattle.cidr_c.specs.declared.mmdb.CMmdb.{CMmdb}
use Rattle.cidr_c.specs.declared.mmdb.CMmdbRow.{CMmdbRow}

pub same_row : (row : CMmdbRow) (next : Row) → ip_network_in row.network ≡ next.network → found_in row ≡ next.found → row_in row ≡ next
same_row row next network found = ap₂ (λ n f. record { network = n; found = f }) network found

pub next_told : (bytes : List ℕ) (file : CMmdb) (old new : CMmdbRow) (next : Row) → IsNetworkValue old.network → IsMmdbRow new → row_in new ≡ next
    → ((database : Database) → IsMmdbOf bytes file database → IsNextRow (looked_up database) database.width (begin_behind (specific (network_in old.network))) most_passed next)
    → IsMmdbNext bytes file old new 0
next_told bytes file old new next network row is told = record {
  codes = inl refl;
  refused = (λ e. absurd (omega arith), λ other. absurd (other network));
  stays = λ other. absurd (other refl);
  row = λ _. row;
  next = λ _ database of. subst (λ r. IsNextRow (looked_up database) database.width (begin_behind (specific (network_in old.network))) most_passed r) (sym is) (told database of);
  none = λ e. absurd (omega arith);
}

pub none_told : (bytes : List ℕ) (file : CMmdb) (old : CMmdbRow) → IsNetworkValue old.network
    → ((database : Database) → IsMmdbOf bytes file database → IsPassed (looked_up database) database.width (begin_behind (specific (network_in old.network))) (2 ^ database.width))
    → IsMmdbNext bytes file old old 23
none_told bytes file old network told = record {
  codes = inr (inl refl);
  refused = (λ e. absurd (omega arith), λ other. absurd (other network));
  stays = λ _. refl;
  row = λ e. absurd (omega arith);
  next = λ e. absurd (omega arith);
  none = λ _. told;
}
