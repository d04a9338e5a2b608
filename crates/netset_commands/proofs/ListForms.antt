-- What a line of a list says, or its error, by what is read of it.
use Rattle.std.proofs.Common.{refl, inl, inr, List, ℕ, Ok, Err}
use Rattle.cidr.specs.declared.cidr.combined.IpCidr.{IpCidr}
use Rattle.cidr_lists.specs.Lists.{AreContentNetworks, IsBadBy, IsTooLong, SaysBy}
use Rattle.cidr_lists.specs.Reading.{ReadsBy}
use Rattle.cidr_lists.specs.declared.errors.LineError.{LineError}
use Rattle.cidr_lists.specs.declared.errors.LineError.TheVariants.{TooLong}
use Rattle.cidr_lists.specs.declared.lines.Content.{Content}
use Rattle.cidr_lists.specs.declared.records.ListForm.{ListForm}
use Rattle.cidr_lists.specs.declared.records.ListForm.TheVariants.{Networks, Rir}

pub line_says : (form : ListForm) (line : List ℕ) (content : Content) (said : List IpCidr) → ¬ (IsTooLong line) → ReadsBy form line (Ok content)
    → AreContentNetworks content said → SaysBy form line said
line_says (Networks bits) line content said short (field, is_field, is_content) are = (short, field, content, is_field, is_content, are)
line_says Rir line content said short is are = (short, content, is, are)

pub long_line : (form : ListForm) (line : List ℕ) → IsTooLong line → IsBadBy form line TooLong
long_line (Networks bits) line long = inl (refl, long)
long_line Rir line long = inl (refl, long)

pub line_fails : (form : ListForm) (line : List ℕ) (e : LineError) → ¬ (IsTooLong line) → ReadsBy form line (Err e) → IsBadBy form line e
line_fails (Networks bits) line e short bad = inr (short, bad)
line_fails Rir line e short bad = inr (short, bad)
