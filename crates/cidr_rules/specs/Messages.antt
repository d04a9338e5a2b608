-- The messages of the errors: this project's own.
use Rattle.std.specs.Prelude.{ℕ, List, codes}
use Rattle.cidr_rules.specs.declared.errors.RulesError.{RulesError}
use Rattle.cidr_rules.specs.declared.errors.RulesError.TheVariants.{TooManyParts, NoMemory}

abbrev pub rules_message : RulesError → List ℕ
rules_message TooManyParts = codes "too many parts"
rules_message NoMemory = codes "out of memory"
