use Rattle.std.proofs.Common.{refl, Err}
use Rattle.netset_commands.specs.declared.errors.ListReadError.TheVariants.{Line}
use Rattle.netset_commands.proofs.Telling.{line_faulty, same_kind}
use Rattle.netset_commands.proofs.input.keeping.keep_line.Goals as goal

pub returns-in-Ok-clause-keeps : goal.returns-in-Ok-clause-keeps
returns-in-Ok-clause-keeps g c = (c.in-Ok.ensures.adds, refl, refl)

pub returns-in-Err-Line-clause-keeps : goal.returns-in-Err-Line-clause-keeps
returns-in-Err-Line-clause-keeps g c =
    let adds = (rw c.in-Err-Line.field-0-is at c.in-Err-Line.ensures.adds) in (
      c.in-Err-Line.e,
      same_kind c.args.list_form c.args.line.now c.args.place.number c.args.said.now c.add_line.new.self (Err (Line _ c.in-Err-Line.e)) adds,
      line_faulty c.args.list_form c.args.line.now c.args.place.number c.args.said.now c.add_line.new.self _ c.in-Err-Line.e adds,
      c.say_fault.ensures,
    )

pub returns-in-Err-Input-clause-keeps : goal.returns-in-Err-Input-clause-keeps
returns-in-Err-Input-clause-keeps g c = (tt, refl, refl)

pub returns-in-Err-NoMemory-clause-keeps : goal.returns-in-Err-NoMemory-clause-keeps
returns-in-Err-NoMemory-clause-keeps g c = (tt, refl, refl)

pub returns-in-Err-Input-clause-cause : goal.returns-in-Err-Input-clause-cause
returns-in-Err-Input-clause-cause g c = (rw c.in-Err-Input.field-0-is at c.in-Err-Input.ensures.cause)

pub returns-in-Err-NoMemory-clause-cause : goal.returns-in-Err-NoMemory-clause-cause
returns-in-Err-NoMemory-clause-cause g c = (rw c.in-Err-NoMemory.field-0-is at c.in-Err-NoMemory.ensures.cause)
