use Rattle.script_calls.proofs.Scoping.{refuses_open}
use Rattle.script_calls.proofs.scope_lines.enter.Goals as goal

pub returns-in-Err : goal.returns-in-Err
returns-in-Err c =
    refuses_open c.args.s c.args.o c.args.context.now c.enter.new.self c.args.entries.now.items c.refuse.result c.in-Err.refusal
    (rw (← c.opening_words-option.ensures.option, ← c.opening_words-option.ensures.isolation) c.in-Err.ensures.refused) c.in-Err.ensures.unchanged c.requires.empty c.refuse.ensures.answer c.refuse.ensures.gives
