use Rattle.std.proofs.Common.{◌≡◌, None, Some}
use Rattle.reenlist_recovery.specs.Standing.{answer_by}
use Rattle.reenlist_recovery.proofs.Reading.{answered-is, refused-bad, wrong-bad}
use Rattle.reenlist_recovery.proofs.checking.check.Goals as goal

pub returns-then-found-wanted-clause-bad : goal.returns-then-found-wanted-clause-bad
returns-then-found-wanted-clause-bad c = wrong-bad c.args.info.now c.in-Ok.found _ _ c.in-Ok.ensures.info

pub returns-in-Some-clause-bad : goal.returns-in-Some-clause-bad
returns-in-Some-clause-bad c =
    refused-bad c.args.info.now c.in-Ok.found c.in-Ok.found.enl (answer_by c.in-Ok.found.enl c.standing_of.result) (Some c.in-Some.refusal) c.in-Ok.ensures.info c.in-Some.ensures

pub returns-in-Some-clause-answered : goal.returns-in-Some-clause-answered
returns-in-Some-clause-answered c = λ i p q.
    let written = c.in-Ok.ensures.written i p in
    let same : c.in-Ok.found ≡ i = cc in
    answered-is c.args.history.now.items c.in-Ok.found i c.standing_of.result (Some c.in-Some.refusal) same c.standing_of.ensures c.in-Some.ensures

pub returns-in-None-clause-bad : goal.returns-in-None-clause-bad
returns-in-None-clause-bad c =
    refused-bad c.args.info.now c.in-Ok.found c.in-Ok.found.enl (answer_by c.in-Ok.found.enl c.standing_of.result) None c.in-Ok.ensures.info c.in-None.ensures

pub returns-in-None-clause-answered : goal.returns-in-None-clause-answered
returns-in-None-clause-answered c = λ i p q.
    let written = c.in-Ok.ensures.written i p in
    let same : c.in-Ok.found ≡ i = cc in
    answered-is c.args.history.now.items c.in-Ok.found i c.standing_of.result None same c.standing_of.ensures c.in-None.ensures
