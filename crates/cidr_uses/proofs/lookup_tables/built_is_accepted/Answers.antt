use Rattle.std.proofs.Common.{◌≡◌, subst, arith, ℕ, ◌^◌, ◌<◌, List, length, Result, Ok, Err, IfErr}
use Rattle.std.proofs.lemmas.List.{length-map}
use Rattle.cidr_lookup.specs.Faults.{IsFault}
use Rattle.cidr_lookup.specs.FaultLaws.{no_fault}
use Rattle.cidr_lookup.specs.Keys.{key_networks}
use Rattle.cidr_lookup.specs.Tables.{IsLookupTable}
use Rattle.cidr_lookup.specs.declared.checking.WordsFault.{WordsFault}
use Rattle.cidr_lookup.specs.declared.checking.WordsFault.TheVariants.{Keys}
use Rattle.cidr_lookup.specs.declared.key.Key.{Key}
use Rattle.cidr_lookup.specs.declared.table.TableError.TheVariants.{NoMemory}
use Rattle.cidr_uses.proofs.lookup_tables.built_is_accepted.Goals as goal

accepted : {T : Type 0} (result : Result T WordsFault) (steps : ℕ) (networks : List (ℕ × ℕ)) (first first' words words' : List ℕ) → first' ≡ first → words' ≡ words
    → IsLookupTable 32 4 steps networks first words → length networks < 2 ^ 31 → length first < 2 ^ 30 → length words < 2 ^ 30
    → IfErr result (IsFault 32 4 steps networks first' words') → IfErr result (λ fault. fault ≡ Keys NoMemory)
accepted (Ok value) steps networks first first' words words' f ws good few less less' wrong = wrong
accepted (Err fault) steps networks first first' words words' f ws good few less less' wrong =
    no_fault 32 4 steps networks first words fault good few less less'
    (subst (λ xs. IsFault 32 4 steps networks first xs fault) ws (subst (λ xs. IsFault 32 4 steps networks xs words' fault) f wrong))

pub returns : goal.returns
returns c =
    let h = c.in_ok-table.ensures in
    let table = c.in_ok-table.table in
    let keys = c.args.keys.now in
    let size = length-map {B = ℕ × ℕ} keys (λ (k : Key ℕ). (k.address, k.len)) in
    accepted c.check.result table.steps (key_networks (λ n. n) keys) table.first.items c.as_slice-first.result.now table.words.items c.as_slice-words.result.now
    c.as_slice-first.ensures.value c.as_slice-words.ensures.value h.table (omega (arith, h.few, size)) (omega (arith, h.entries)) h.words c.check.ensures.refused
